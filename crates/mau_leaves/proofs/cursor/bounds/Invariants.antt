use Rattle.std.proofs.Common.{◌≡◌, map, take}
use Rattle.mau_leaves.specs.Cursors.{bound_by}
use Rattle.mau_leaves.proofs.cursor.bounds.Given as goal

abbrev pub invariant-loop-variable : goal.invariant-loop-variable
invariant-loop-variable l = l.values.items ≡ map bound_by (take l.variable-index l.found)
