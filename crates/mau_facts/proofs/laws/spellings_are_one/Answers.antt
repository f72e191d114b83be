use Rattle.mau_facts.proofs.Law.{spellings_are_one}
use Rattle.mau_facts.proofs.laws.spellings_are_one.Goals as goal

pub returns : goal.returns
returns c = spellings_are_one
