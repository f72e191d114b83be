use Rattle.mau_tokens.proofs.Answer.{answers_are_computed}
use Rattle.mau_tokens.proofs.laws.answers_are_computed.Goals as goal

pub returns : goal.returns
returns c = answers_are_computed
