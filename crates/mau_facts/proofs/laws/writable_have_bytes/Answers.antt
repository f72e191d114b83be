use Rattle.mau_facts.proofs.Law.{writable_have_bytes}
use Rattle.mau_facts.proofs.laws.writable_have_bytes.Goals as goal

pub returns : goal.returns
returns c = writable_have_bytes
