use Rattle.std.proofs.Common.{◌≡◌, ◌+◌, ◌≤◌, false, true, arith, subst}
use Rattle.mau_poset.specs.Order.{kinds, IsPoset}
use Rattle.mau_cond.proofs.Ranges.{out_of_range}
use Rattle.mau_cond.proofs.step.has_sort.Goals as goal

pub returns-then-sort-sorts : goal.returns-then-sort-sorts
returns-then-sort-sorts c = λ e at.
    let none : false ≡ true → ⊥ = λ f. cc in
    let h = c.args.sig.now.hierarchy in
    let same = c.poset-poset.ensures.value in
    let poset : IsPoset h = subst IsPoset same c.kinds.ensures.poset in
    let sorts : c.sorts.result ≡ h.sorts = subst (λ z. c.sorts.result ≡ z.sorts) same c.sorts.ensures.value in
    let count : c.kinds.result ≡ kinds h = subst (λ z. c.kinds.result ≡ kinds z) same c.kinds.ensures.value in
    let far : h.sorts + kinds h ≤ c.args.sort = omega (arith, c.if-sort-sorts.true, sorts, count) in
    (λ f. absurd (none f), λ i. absurd (out_of_range h poset e (c.requires.over c.args.value.0 e at) c.args.sort far i))
