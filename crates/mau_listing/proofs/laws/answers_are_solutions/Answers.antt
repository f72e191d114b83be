use Rattle.mau_listing.proofs.Answered.{answers_are_solutions as law}
use Rattle.mau_listing.proofs.laws.answers_are_solutions.Goals as goal

pub returns : goal.returns
returns c = law
