use Rattle.mau_facts.proofs.Law.{faults_are_one}
use Rattle.mau_facts.proofs.laws.faults_are_one.Goals as goal

pub returns : goal.returns
returns c = faults_are_one
