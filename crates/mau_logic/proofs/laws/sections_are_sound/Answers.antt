use Rattle.mau_logic.proofs.Sound.{sections_are_sound}
use Rattle.mau_logic.proofs.laws.sections_are_sound.Goals as goal

pub returns : goal.returns
returns c = sections_are_sound
