use Rattle.mau_evaluation.proofs.RunLimits.{rule_runs_stay}
use Rattle.mau_evaluation.proofs.strategy_laws.rule_runs_stay.Goals as goal

pub returns : goal.returns
returns c = rule_runs_stay
