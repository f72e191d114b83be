use Rattle.mau_facts.proofs.Law.{documents_are_one}
use Rattle.mau_facts.proofs.laws.documents_are_one.Goals as goal

pub returns : goal.returns
returns c = documents_are_one
