use Rattle.mau_facts.proofs.Law.{documents_have_no_fault}
use Rattle.mau_facts.proofs.laws.documents_have_no_fault.Goals as goal

pub returns : goal.returns
returns c = documents_have_no_fault
