use Rattle.std.proofs.Common.{◌≡◌, ◌++◌, arith, sym, ap, ap₂, ◌∙◌, subst}
use Rattle.mau_store.specs.Trees.{tree_at}
use Rattle.mau_docheck.specs.Holes.{with_holes}
use Rattle.mau_docheck.specs.Naming.{IsNamed}
use Rattle.mau_docheck.specs.Concluded.{all_variables, ends_line, leads_line}
use Rattle.mau_docheck.proofs.Concluding.{on_ok_then, named_end, ends_same}
use Rattle.mau_docheck.proofs.conclusion.write_leads.Goals as goal

pub returns : goal.returns
returns c = λ x t u h.
    let m = c.args.module.now in
    let ns = c.add_holes.new.vars in
    let all = all_variables m x in
    let old = c.args.conclusion.store in
    let new = c.in_ok-store.store in
    let i = c.args.conclusion.from.0 in
    let j = c.args.conclusion.to.0 in
    let a = c.index-from.result.now in
    let b = c.index-to.result.now in
    let out = c.args.out.now.items in
    let count = c.in_ok-store.ensures.all in
    let same = c.in_ok-add_holes.ensures ∙ ap₂ with_holes (c.poset.ensures.value ∙ ap (λ s. s.hierarchy) c.signature.ensures.value) h.variables in
    let from = subst (λ y. IsNamed ns new y (tree_at old i)) (sym c.index-from.ensures) (c.in_ok-store.ensures.named.each i a (omega (arith, count, c.requires.from))) in
    let to = subst (λ y. IsNamed ns new y (tree_at old j)) (sym c.index-to.ensures) (c.in_ok-store.ensures.named.each j b (omega (arith, count, c.requires.to))) in
    on_ok_then c.write_ends.result (c.write_ends.new.out.items ≡ out ++ ends_line m ns (tree_at new a.0) (tree_at new b.0)) (c.write_ends.new.out.items ≡ out ++ leads_line m all t u)
    (λ e. e ∙ ap (λ z. out ++ z) (ends_same m ns all (tree_at new a.0) (tree_at new b.0) t u same (named_end m ns all old new i a t same from h.from.stands) (named_end m ns all old new j b u same to h.to.stands)))
    c.write_ends.ensures
