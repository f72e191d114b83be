use Rattle.mau_extend.proofs.Accepted.{wider_solves}
use Rattle.mau_extend.proofs.laws.parts_are_wide_ones.Goals as goal

pub returns : goal.returns
returns c = λ s lawful kinds known q normal bare h k f a b can first last x is shape. wider_solves s lawful kinds known q normal bare h k f a b can first last x is shape
