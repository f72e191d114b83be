use Rattle.mau_built_ins.proofs.BuiltAnswers.{built_ins_give_their_kind}
use Rattle.mau_built_ins.proofs.laws.built_ins_give_their_kind.Goals as goal

pub returns : goal.returns
returns c = built_ins_give_their_kind
