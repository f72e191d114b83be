-- What a mark tells of a table.
use Rattle.std.specs.Prelude.{◌≡◌, ℕ, List, Some, true, false, get_or}
use Rattle.std.specs.List.{slice_get}
use Rattle.mau_chart.specs.declared.places.Mark.{Mark}
use Rattle.mau_chart.specs.Chart.{Edge, Full}

-- where an end is marked, there are two different facts of the item
abbrev pub IsMarked : (ℕ → List Edge) → Mark → Type 0
IsMarked rows m = (e : ℕ) → get_or m.full.items e false ≡ true → Full rows m.row m.item e

abbrev pub AllMarked : (ℕ → List Edge) → List Mark → Type 0
AllMarked rows ms = (s : ℕ) (m : Mark) → slice_get ms s ≡ Some m → IsMarked rows m
