use Rattle.mau_shapes.proofs.Answering.{answered}
use Rattle.mau_shapes.proofs.laws.every_text_has_an_answer.Goals as goal

pub returns : goal.returns
returns c = answered
