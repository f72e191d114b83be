use Rattle.mau_logic.proofs.LedRuns.{runs_are_led}
use Rattle.mau_logic.proofs.laws.runs_are_led.Goals as goal

pub returns : goal.returns
returns c = runs_are_led
