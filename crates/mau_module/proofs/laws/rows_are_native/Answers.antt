use Rattle.mau_module.proofs.NativeRows.{rows_are_native}
use Rattle.mau_module.proofs.laws.rows_are_native.Goals as goal

pub returns : goal.returns
returns c = rows_are_native
