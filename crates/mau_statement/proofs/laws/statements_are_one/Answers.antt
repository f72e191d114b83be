use Rattle.mau_statement.proofs.OneStatement.{statement_once}
use Rattle.mau_statement.proofs.laws.statements_are_one.Goals as goal

pub returns : goal.returns
returns c = statement_once
