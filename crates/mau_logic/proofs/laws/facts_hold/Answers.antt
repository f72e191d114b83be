use Rattle.mau_logic.proofs.Sound.{facts_hold_all}
use Rattle.mau_logic.proofs.laws.facts_hold.Goals as goal

pub returns : goal.returns
returns c = facts_hold_all
