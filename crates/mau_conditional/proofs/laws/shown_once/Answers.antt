use Rattle.mau_conditional.proofs.Shown.{shown_once}
use Rattle.mau_conditional.proofs.laws.shown_once.Goals as goal

pub returns : goal.returns
returns c = shown_once
