use Rattle.mau_tokens.proofs.Answer.{answers_are_one}
use Rattle.mau_tokens.proofs.laws.answers_are_one.Goals as goal

pub returns : goal.returns
returns c = answers_are_one
