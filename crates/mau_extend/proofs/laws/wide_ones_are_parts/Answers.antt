use Rattle.mau_listing.specs.Asked.{BySort}
use Rattle.mau_extend.proofs.OneNarrowed.{narrow_solves}
use Rattle.mau_extend.proofs.laws.wide_ones_are_parts.Goals as goal

pub returns : goal.returns
returns c = λ s lawful known q normal h k f a b can y x solves is w. narrow_solves s lawful (BySort s known) q normal h k f a b can y x solves is w
