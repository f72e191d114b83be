use Rattle.mau_evaluation.proofs.Solved.{solutions_within_are_listed}
use Rattle.mau_evaluation.proofs.laws.solutions_within_are_listed.Goals as goal

pub returns : goal.returns
returns c = solutions_within_are_listed
