use Rattle.mau_built_ins.proofs.Literals.{literals_give_numerals}
use Rattle.mau_built_ins.proofs.laws.literals_give_numerals.Goals as goal

pub returns : goal.returns
returns c = literals_give_numerals
