-- What lawful programs evaluate to admits nothing more.
use Rattle.mau_evaluation.proofs.Irreducible.{values_are_irreducible}
use Rattle.mau_api.specs.Programs.{program_over}
use Rattle.mau_deriving.proofs.Lawful.{heads}
use Rattle.mau_reducer.specs.Irreducible.{ValuesAdmitNone}
use Rattle.mau_reducer.proofs.SortsGrow.{declared_grow}

pub values_admit_none : ValuesAdmitNone
values_admit_none p is lawful hooks k B b t u r left e = values_are_irreducible (program_over p hooks) (heads p is lawful hooks) (declared_grow p hooks) k B b t u r left e
