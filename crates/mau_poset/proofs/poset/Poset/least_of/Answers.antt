use Rattle.std.proofs.Common.{ℕ}
use Rattle.std.proofs.lemmas.Bool.{iff_false}
use Rattle.mau_poset.specs.Order.{IsLeastOf}
use Rattle.mau_poset.proofs.Least.{IsLowest-all, IfNone-any}
use Rattle.mau_poset.proofs.poset.Poset.least_of.Goals as goal

pub returns-in_err-lowest-clause-none : goal.returns-in_err-lowest-clause-none
returns-in_err-lowest-clause-none c =
    let none : (m : ℕ) → ¬ IsLeastOf c.args.self.now c.args.sorts.now m = λ m least. c.in_err-lowest.ensures.none m least.member in
    IfNone-any _ none

pub returns-else-is_below_all-clause-none : goal.returns-else-is_below_all-clause-none
returns-else-is_below_all-clause-none c = λ m least.
    iff_false c.is_below_all.ensures c.if-is_below_all.false (IsLowest-all _ _ _ m (rw c.self.view_is at c.self.invariant.poset) (c.in_ok-lowest.ensures.lowest m least) least)
