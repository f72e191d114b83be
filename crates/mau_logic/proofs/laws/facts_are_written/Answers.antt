use Rattle.mau_logic.proofs.Written.{facts_are_written}
use Rattle.mau_logic.proofs.laws.facts_are_written.Goals as goal

pub returns : goal.returns
returns c = facts_are_written
