-- A variable by its numbers.
use Rattle.std.specs.Prelude.{ℕ}
use Rattle.mau_terms.specs.declared.ids.VarId.{VarId}

abbrev pub var_id : ℕ → ℕ → VarId
var_id n s = record { index = n; sort = s }
