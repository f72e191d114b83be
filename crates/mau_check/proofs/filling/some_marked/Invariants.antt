use Rattle.std.proofs.Common.{List, take}
use Rattle.std.specs.Prelude.{All}
use Rattle.mau_store.specs.Node.{Node}
use Rattle.mau_store.specs.Trees.{trees_at}
use Rattle.mau_store.specs.View.{numbers}
use Rattle.mau_check.specs.Marks.{HasNoHole, AreMarks}
use Rattle.mau_check.proofs.filling.some_marked.Given as goal

abbrev pub invariant-loop-arg : goal.invariant-loop-arg
invariant-loop-arg l = (nodes : List Node) → AreMarks nodes l.marks → All HasNoHole (trees_at nodes (numbers (take l.arg-index l.args)))
