use Rattle.mau_logic.proofs.Sound.{led_is_so}
use Rattle.mau_logic.proofs.laws.led_is_so.Goals as goal

pub returns : goal.returns
returns c = led_is_so
