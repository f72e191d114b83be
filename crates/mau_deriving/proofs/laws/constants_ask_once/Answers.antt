use Rattle.mau_deriving.proofs.Constants.{one_question, no_question}
use Rattle.mau_deriving.proofs.laws.constants_ask_once.Goals as goal

pub returns : goal.returns
returns c = λ P heads m i c normal bare B. (one_question P heads m i c normal bare B, no_question P heads m i c normal bare B)
