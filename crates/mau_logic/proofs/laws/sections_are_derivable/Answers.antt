use Rattle.mau_logic.proofs.SectionFacts.{sections_are_derivable}
use Rattle.mau_logic.proofs.laws.sections_are_derivable.Goals as goal

pub returns : goal.returns
returns c = sections_are_derivable
