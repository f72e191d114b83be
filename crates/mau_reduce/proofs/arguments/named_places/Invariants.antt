use Rattle.std.proofs.Common.{◌≡◌, ◌++◌, drop}
use Rattle.mau_api.specs.Programs.{places_of}
use Rattle.mau_reduce.proofs.arguments.named_places.Given as goal

abbrev pub invariant-loop-number : goal.invariant-loop-number
invariant-loop-number l = places_of l.strategy ≡ l.places.items ++ places_of (drop l.number-index l.strategy)
