use Rattle.mau_evaluation.proofs.RunsFall.{rule_runs_go_on}
use Rattle.mau_evaluation.proofs.strategy_laws.rule_runs_go_on.Goals as goal

pub returns : goal.returns
returns c = rule_runs_go_on
