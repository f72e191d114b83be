use Rattle.mau_check.proofs.Tells.{decided}
use Rattle.mau_check.proofs.sorts.has_entry.Goals as goal

pub returns : goal.returns
returns c known nodes entries = decided c.args.sig.now known nodes c.args.table.now c.args.id.0 c.args.sort c.in-Some.has entries c.requires.settled c.in-Some.ensures.value
