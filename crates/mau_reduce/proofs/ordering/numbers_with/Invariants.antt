use Rattle.std.proofs.Common.{◌≡◌, ◌++◌, map, drop}
use Rattle.mau_api.specs.Programs.{equation_of}
use Rattle.mau_reduce.specs.Trying.{numbers_of}
use Rattle.mau_reduce.proofs.ordering.numbers_with.Given as goal

abbrev pub invariant-loop-number : goal.invariant-loop-number
invariant-loop-number l = l.found.items ++ numbers_of l.owise l.number (map equation_of (drop l.number l.program.equations)) ≡ numbers_of l.owise 0 (map equation_of l.program.equations)
