use Rattle.std.proofs.Common.{◌≡◌, take, map}
use Rattle.mau_renumber.specs.Carried.{fragment_to}
use Rattle.mau_renumber.specs.Tables.{numbers_in}
use Rattle.mau_renumber.proofs.carry.Tables.condition.Given as goal

abbrev pub invariant-loop-fragment : goal.invariant-loop-fragment
invariant-loop-fragment l = l.found.items ≡ map (fragment_to (numbers_in l.self)) (take l.fragment-index l.condition)
