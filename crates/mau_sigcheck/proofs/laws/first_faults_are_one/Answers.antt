use Rattle.mau_sigcheck.proofs.OneFault.{faults_once}
use Rattle.mau_sigcheck.proofs.laws.first_faults_are_one.Goals as goal

pub returns : goal.returns
returns c = faults_once
