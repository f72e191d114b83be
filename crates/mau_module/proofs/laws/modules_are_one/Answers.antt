use Rattle.mau_module.proofs.OneModule.{module_once}
use Rattle.mau_module.proofs.laws.modules_are_one.Goals as goal

pub returns : goal.returns
returns c = λ ms ws raw r s x y. module_once ms ws raw x y
