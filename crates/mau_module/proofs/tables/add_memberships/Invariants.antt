use Rattle.std.proofs.Common.{◌≡◌, ◌++◌, take, map}
use Rattle.mau_renumber.specs.Carried.{membership_to}
use Rattle.mau_renumber.specs.Tables.{numbers_in}
use Rattle.mau_module.proofs.tables.add_memberships.Given as goal

abbrev pub invariant-loop-membership : goal.invariant-loop-membership
invariant-loop-membership l = l.out.items ≡ l.fn.out.items ++ map (membership_to (numbers_in l.tables)) (take l.membership-index l.memberships)
