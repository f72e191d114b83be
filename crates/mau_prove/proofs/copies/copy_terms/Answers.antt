use Rattle.std.proofs.Common.{◌≡◌, ◌+◌, [], ◌∷◌, length, sym, ap, ◌∙◌, subst, length-append}
use Rattle.mau_store.specs.Trees.{tree_at}
use Rattle.mau_check.proofs.Growing.{extends_trans}
use Rattle.mau_prove.specs.Copies.{AreCopies}
use Rattle.mau_prove.proofs.Copied.{one_more}
use Rattle.mau_prove.proofs.copies.copy_terms.Goals as goal

pub loop-i-preserved : goal.loop-i-preserved
loop-i-preserved c =
    let old = c.args.other.now in
    let mid = c.loop-i.store in
    let new = c.add_copy.new.store in
    let ids = c.loop-i.ids.items in
    let id = c.in_ok-id.id in
    let count = c.loop-i.invariant.counted in
    let term = c.in_ok-id.ensures.tree old (subst (AreCopies old mid) (sym c.deref.ensures.value) c.loop-i.invariant.copies) in
    let here = subst (λ n. tree_at new id.0 ≡ tree_at old n) (sym count) (term ∙ sym c.view.ensures.tree) in
    record {
      copies = subst (AreCopies old new) (sym c.in_ok-push.ensures.items) (one_more old mid new ids id c.loop-i.invariant.copies c.in_ok-id.ensures.extends c.in_ok-id.ensures.there here);
      counted = ap length c.in_ok-push.ensures.items ∙ length-append ids (id ∷ []) ∙ ap (λ n. n + 1) count;
      extends = extends_trans c.args.store.now mid new c.loop-i.invariant.extends c.in_ok-id.ensures.extends;
    }
