use Rattle.mau_evaluation.proofs.Solved.{solutions_are_listed}
use Rattle.mau_evaluation.proofs.laws.solutions_are_listed.Goals as goal

pub returns : goal.returns
returns c = solutions_are_listed
