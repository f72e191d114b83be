use Rattle.mau_results.proofs.Allowed.{answers_are_one}
use Rattle.mau_results.proofs.laws.answers_are_one.Goals as goal

pub returns : goal.returns
returns c = answers_are_one
