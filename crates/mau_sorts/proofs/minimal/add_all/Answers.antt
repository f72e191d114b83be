use Rattle.std.proofs.Common.{List, ℕ, subst}
use Rattle.std.specs.Prelude.{◌↔◌, ◌⊎◌}
use Rattle.std.proofs.lemmas.List.{take_all}
use Rattle.mau_sorts.specs.SortSets.{IsAbove}
use Rattle.mau_sorts.proofs.MinimalSorts.{AreAdded-more}
use Rattle.mau_sorts.proofs.minimal.add_all.Goals as goal

pub returns-in_err-add-clause-apart : goal.returns-in_err-add-clause-apart
returns-in_err-add-clause-apart c apart = c.in_err-add.ensures.apart (c.loop-sort.invariant.apart apart)

pub loop-sort-preserved : goal.loop-sort-preserved
loop-sort-preserved c =
    AreAdded-more c.args.poset.now c.args.minimal.now.items c.args.more.now c.loop-sort.minimal.items c.add.new.minimal.items c.loop-sort.sort-index c.loop-sort-test.true
    c.loop-sort.invariant c.in_ok-add.ensures.above c.in_ok-add.ensures.apart c.in_ok-add.ensures.sorts

pub returns-clause-above : goal.returns-clause-above
returns-clause-above c r =
    subst (λ (xs : List ℕ). IsAbove c.args.poset.now c.loop-sort.minimal.items r ↔ (IsAbove c.args.poset.now c.args.minimal.now.items r ⊎ IsAbove c.args.poset.now xs r))
    (take_all c.loop-sort.sort-index c.args.more.now c.loop-sort-test.false) (c.loop-sort.invariant.above r)
