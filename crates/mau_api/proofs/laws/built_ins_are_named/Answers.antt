use Rattle.mau_api.proofs.BuiltIns.{built_ins_are_named}
use Rattle.mau_api.proofs.laws.built_ins_are_named.Goals as goal

pub returns : goal.returns
returns c = built_ins_are_named
