use Rattle.mau_signature.proofs.FirstFaults.{faults_are_one}
use Rattle.mau_signature.proofs.laws.faults_are_one.Goals as goal

pub returns : goal.returns
returns c = faults_are_one
