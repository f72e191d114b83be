use Rattle.mau_solutions.proofs.Following.{solutions_are_new}
use Rattle.mau_solutions.proofs.laws.solutions_are_new.Goals as goal

pub returns : goal.returns
returns c = solutions_are_new
