use Rattle.mau_evaluation.proofs.RunsFall.{rule_runs_fall}
use Rattle.mau_evaluation.proofs.strategy_laws.rule_runs_fall.Goals as goal

pub returns : goal.returns
returns c = rule_runs_fall
