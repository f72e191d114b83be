use Rattle.std.proofs.Common.{◌≡◌, false, All, take}
use Rattle.mau_reducer.proofs.tests_of_programs.derives_nothing.Given as goal

abbrev pub invariant-loop-membership : goal.invariant-loop-membership
invariant-loop-membership l = All (λ m. m.exec ≡ false) (take l.membership-index l.membership-items)
