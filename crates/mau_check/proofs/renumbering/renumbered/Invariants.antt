use Rattle.std.proofs.Common.{◌≡◌, map, take}
use Rattle.std.specs.Prelude.{slice_index}
use Rattle.mau_store.specs.View.{numbers as numbers_of}
use Rattle.mau_check.proofs.renumbering.renumbered.Given as goal

abbrev pub invariant-loop-arg : goal.invariant-loop-arg
invariant-loop-arg l = numbers_of l.ids.items ≡ map (slice_index (numbers_of l.numbers)) (take l.arg-index (numbers_of l.args))
