use Rattle.std.proofs.Common.{◌≡◌, ℕ, ◌≤◌, ◌<◌, get_or, Some, true, false}
use Rattle.std.specs.List.{slice_get}
use Rattle.mau_chart.specs.declared.places.Place.{Place}
use Rattle.mau_chart.proofs.marks.next_open.Given as goal

abbrev pub invariant-loop-z : goal.invariant-loop-z
invariant-loop-z l = (y : ℕ) (p : Place) → l.from ≤ y → y < l.z → slice_get l.places y ≡ Some p → get_or l.full p.end false ≡ true
