use Rattle.std.proofs.Common.{subst}
use Rattle.std.specs.Prelude.{IfOk}
use Rattle.mau_statement.specs.Context.{ContextOf}
use Rattle.mau_module.specs.Made.{AreLawfulOver}
use Rattle.mau_module.proofs.flatten.own_statements.Goals as goal

pub returns-clause-lawful : goal.returns-clause-lawful
returns-clause-lawful c = subst (λ (x : ContextOf). IfOk c.read_own.result (AreLawfulOver x.signature)) c.new-context.ensures c.read_own.ensures.lawful
