-- Tables that are kept, in a store that grows.
use Rattle.std.proofs.Common.{ℕ, List, false}
use Rattle.mau_formula.specs.Operator.{Operator}
use Rattle.mau_store.specs.Node.{Node, Extends}
use Rattle.mau_sorts.specs.Table.{Table}
use Rattle.mau_program.specs.declared.program.Program.{Program}
use Rattle.mau_api.specs.Meanings.{meanings_by}
use Rattle.mau_reduce.proofs.PlainTables.{derived_extended}
use Rattle.mau_reducer.specs.KeptTables.{IsKept}

pub kept_grown : (p : Program) (hooks : List Operator) (limit : ℕ) (old new : List Node) (table : Table) → Extends old new → IsKept p hooks limit old table → IsKept p hooks limit new table
kept_grown p hooks limit old new table x kept = derived_extended (meanings_by p hooks limit false) old new table x kept
