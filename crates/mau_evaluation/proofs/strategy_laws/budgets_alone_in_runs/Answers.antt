use Rattle.mau_evaluation.proofs.RunLimits.{budgets_alone_in_runs}
use Rattle.mau_evaluation.proofs.strategy_laws.budgets_alone_in_runs.Goals as goal

pub returns : goal.returns
returns c = budgets_alone_in_runs
