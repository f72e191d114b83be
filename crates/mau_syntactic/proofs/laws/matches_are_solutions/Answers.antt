use Rattle.mau_syntactic.proofs.Solving.{matches_are_solutions as law}
use Rattle.mau_syntactic.proofs.laws.matches_are_solutions.Goals as goal

pub returns : goal.returns
returns c = law
