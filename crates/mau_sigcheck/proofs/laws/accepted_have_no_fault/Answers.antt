use Rattle.mau_sigcheck.proofs.OneFault.{accepted_no_fault}
use Rattle.mau_sigcheck.proofs.laws.accepted_have_no_fault.Goals as goal

pub returns : goal.returns
returns c = accepted_no_fault
