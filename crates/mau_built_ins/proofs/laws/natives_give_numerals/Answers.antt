use Rattle.mau_built_ins.proofs.Literals.{natives_give_numerals}
use Rattle.mau_built_ins.proofs.laws.natives_give_numerals.Goals as goal

pub returns : goal.returns
returns c = natives_give_numerals
