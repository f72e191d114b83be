use Rattle.mau_evaluation.proofs.Limits.{budgets_alone}
use Rattle.mau_evaluation.proofs.laws.budgets_alone.Goals as goal

pub returns : goal.returns
returns c = budgets_alone
