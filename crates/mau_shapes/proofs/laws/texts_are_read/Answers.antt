use Rattle.mau_shapes.proofs.Reading.{one_shape}
use Rattle.mau_shapes.proofs.laws.texts_are_read.Goals as goal

pub returns : goal.returns
returns c = one_shape
