use Rattle.mau_solutions.proofs.Following.{solutions_satisfy}
use Rattle.mau_solutions.proofs.laws.solutions_satisfy.Goals as goal

pub returns : goal.returns
returns c = solutions_satisfy
