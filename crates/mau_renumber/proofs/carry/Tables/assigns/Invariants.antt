use Rattle.std.proofs.Common.{◌≡◌, take, map}
use Rattle.mau_renumber.specs.Strategies.{assign_to}
use Rattle.mau_renumber.specs.Tables.{numbers_in}
use Rattle.mau_renumber.proofs.carry.Tables.assigns.Given as goal

abbrev pub invariant-loop-assign : goal.invariant-loop-assign
invariant-loop-assign l = l.found.items ≡ map (assign_to (numbers_in l.self)) (take l.assign-index l.assigns)
