use Rattle.mau_api.proofs.BuiltIns.{answers_of_readings}
use Rattle.mau_api.proofs.laws.answers_of_readings.Goals as goal

pub returns : goal.returns
returns c = answers_of_readings
