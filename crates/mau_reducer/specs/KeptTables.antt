-- Tables of sorts that are kept while there is no evaluator.
use Rattle.std.specs.Prelude.{ℕ, List, false}
use Rattle.mau_formula.specs.Operator.{Operator}
use Rattle.mau_store.specs.Node.{Node}
use Rattle.mau_sorts.specs.Table.{Table}
use Rattle.mau_program.specs.declared.program.Program.{Program}
use Rattle.mau_api.specs.Meanings.{meanings_by}
use Rattle.mau_api.specs.Answers.{IsDerivedTable}

-- an evaluator by a program, native operators and a budget may go on with the table over the nodes of a store
abbrev pub IsKept : Program → List Operator → ℕ → List Node → Table → Type 0
IsKept p hooks limit nodes table = IsDerivedTable (meanings_by p hooks limit false) nodes table
