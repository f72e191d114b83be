use Rattle.std.proofs.Common.{take}
use Rattle.std.specs.Bool.{OnFalse}
use Rattle.mau_poset.specs.Table.{Grew}
use Rattle.mau_poset.specs.Closure.{HasOnlyChains, IsClosedUnder}
use Rattle.mau_poset.proofs.closure.run.Given as goal

abbrev pub invariant-loop-a : goal.invariant-loop-a
invariant-loop-a l = (HasOnlyChains l.pairs l.n l.initial.table → HasOnlyChains l.pairs l.n l.table)
    × Grew l.changed l.initial.table l.table
    × OnFalse l.changed (IsClosedUnder (take l.a-index l.pairs) l.n l.table)
