use Rattle.mau_syntactic.proofs.Solving.{matches_are_listed as law}
use Rattle.mau_syntactic.proofs.laws.matches_are_listed.Goals as goal

pub returns : goal.returns
returns c = law
