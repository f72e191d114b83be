use Rattle.mau_module.proofs.PreludeLawful.{prelude_is_lawful}
use Rattle.mau_module.proofs.laws.prelude_is_lawful.Goals as goal

pub returns : goal.returns
returns c = prelude_is_lawful
