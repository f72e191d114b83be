use Rattle.mau_tokens.proofs.Answer.{every_text_has_an_answer}
use Rattle.mau_tokens.proofs.laws.every_text_has_an_answer.Goals as goal

pub returns : goal.returns
returns c = every_text_has_an_answer
