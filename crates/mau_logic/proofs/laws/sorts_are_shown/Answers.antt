use Rattle.mau_logic.proofs.LedRuns.{sorts_are_shown}
use Rattle.mau_logic.proofs.laws.sorts_are_shown.Goals as goal

pub returns : goal.returns
returns c = sorts_are_shown
