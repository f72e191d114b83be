use Rattle.mau_program.proofs.WellDeclared.{built_and_accepted}
use Rattle.mau_program.proofs.laws.accepted_are_well_declared.Goals as goal

pub returns : goal.returns
returns c = built_and_accepted
