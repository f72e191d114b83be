use Rattle.std.proofs.Common.{◌+◌, [], ◌∷◌, length, sym, ap, ◌∙◌, subst, length-append}
use Rattle.mau_store.specs.Trees.{tree_at}
use Rattle.mau_docheck.specs.Naming.{IsNamed, AreNamed}
use Rattle.mau_docheck.proofs.NamedTerms.{one_named}
use Rattle.mau_docheck.proofs.naming.name_holes.Goals as goal

pub loop-i-preserved : goal.loop-i-preserved
loop-i-preserved c =
    let ns = c.args.vars.now in
    let old = c.args.store.now in
    let mid = c.loop-i.named in
    let new = c.add_named.new.store in
    let ids = c.loop-i.numbers.items in
    let id = c.in_ok-id.id in
    let count = c.loop-i.invariant.counted in
    let term = c.in_ok-id.ensures.named old (subst (AreNamed ns old mid) (sym c.deref.ensures.value) c.loop-i.invariant.named) in
    let here = subst (λ n. IsNamed ns new id (tree_at old n)) (sym count) (subst (IsNamed ns new id) (sym c.view.ensures.tree) term) in
    record {
      named = subst (AreNamed ns old new) (sym c.in_ok-push.ensures.items) (one_named ns old mid new ids id c.loop-i.invariant.named c.in_ok-id.ensures.extends here);
      counted = ap length c.in_ok-push.ensures.items ∙ length-append ids (id ∷ []) ∙ ap (λ n. n + 1) count;
    }
