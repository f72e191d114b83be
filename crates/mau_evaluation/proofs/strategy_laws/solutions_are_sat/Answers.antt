use Rattle.mau_evaluation.proofs.Local.{solutions_are_sat}
use Rattle.mau_evaluation.proofs.strategy_laws.solutions_are_sat.Goals as goal

pub returns : goal.returns
returns c = solutions_are_sat
