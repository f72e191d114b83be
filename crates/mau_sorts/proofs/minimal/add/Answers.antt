use Rattle.std.proofs.Common.{ℕ, List, subst, sym}
use Rattle.std.specs.Prelude.{◌↔◌, ◌⊎◌}
use Rattle.mau_poset.specs.Order.{IsAtOrBelow}
use Rattle.mau_sorts.specs.SortSets.{IsAbove, AreApart, AreNotAbove, AreSorts}
use Rattle.mau_sorts.proofs.MinimalSorts.{nothing_added, added_above, added_apart, added_sorts}
use Rattle.mau_sorts.proofs.minimal.add.Goals as goal

pub returns-then-is_above-clause-above : goal.returns-then-is_above-clause-above
returns-then-is_above-clause-above c =
    let is = c.deref.ensures.value in
    nothing_added c.args.poset.now c.args.sort c.args.minimal.now.items c.sorts.ensures.poset
    (subst (λ xs. IsAbove c.args.poset.now xs c.args.sort) is (c.is_above.ensures.0 c.if-is_above.true))

pub returns-clause-above : goal.returns-clause-above
returns-clause-above c r =
    let kept = subst (λ xs. AreNotAbove c.args.poset.now c.args.sort xs c.in_ok-kept.kept.items) c.deref-2.ensures.value c.in_ok-kept.ensures.kept in
    subst (λ (xs : List ℕ). IsAbove c.args.poset.now xs r ↔ (IsAbove c.args.poset.now c.args.minimal.now.items r ⊎ IsAtOrBelow c.args.poset.now c.args.sort r))
    (sym c.in_ok-push.ensures.items)
    (added_above c.args.poset.now c.args.sort c.args.minimal.now.items c.in_ok-kept.kept.items c.sorts.ensures.poset kept r)

pub returns-clause-apart : goal.returns-clause-apart
returns-clause-apart c apart =
    let kept = subst (λ xs. AreNotAbove c.args.poset.now c.args.sort xs c.in_ok-kept.kept.items) c.deref-2.ensures.value c.in_ok-kept.ensures.kept in
    let none : ¬ IsAbove c.args.poset.now c.args.minimal.now.items c.args.sort =
    λ above. let e = c.is_above.ensures.1 (subst (λ xs. IsAbove c.args.poset.now xs c.args.sort) (sym c.deref.ensures.value) above) in let f = c.if-is_above.false in cc (e, f) in
    subst (AreApart c.args.poset.now) (sym c.in_ok-push.ensures.items)
    (added_apart c.args.poset.now c.args.sort c.args.minimal.now.items c.in_ok-kept.kept.items kept none apart)

pub returns-clause-sorts : goal.returns-clause-sorts
returns-clause-sorts c =
    let kept = subst (λ xs. AreNotAbove c.args.poset.now c.args.sort xs c.in_ok-kept.kept.items) c.deref-2.ensures.value c.in_ok-kept.ensures.kept in
    subst (AreSorts c.args.poset.now) (sym c.in_ok-push.ensures.items)
    (added_sorts c.args.poset.now c.args.sort c.args.minimal.now.items c.in_ok-kept.kept.items kept c.requires.sorts c.requires.sort)
