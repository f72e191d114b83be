use Rattle.std.proofs.Common.{◌≡◌, ◌<◌, ℕ, suc, Some}
use Rattle.std.specs.List.{slice_get}
use Rattle.mau_chart.specs.declared.grammar.Item.TheVariants.{Part}
use Rattle.mau_chart.specs.Chart.{Edge, place_of}
use Rattle.mau_chart.specs.Groups.{HasPart}
use Rattle.mau_chart.specs.Table.{table}
use Rattle.mau_chart.proofs.groups.group_row.Given as goal

abbrev pub invariant-loop-x : goal.invariant-loop-x
invariant-loop-x l = (x k d : ℕ) (f : Edge) → x < l.x → slice_get (table l.chart l.m) x ≡ Some f → f.item ≡ Part k (suc d) → HasPart l.groups.items f.item (place_of x f)
