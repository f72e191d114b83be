use Rattle.mau_evaluation.proofs.Local.{inside_is_sat}
use Rattle.mau_evaluation.proofs.strategy_laws.inside_is_sat.Goals as goal

pub returns : goal.returns
returns c = inside_is_sat
