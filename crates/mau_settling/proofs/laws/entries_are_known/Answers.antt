use Rattle.mau_settling.proofs.Entries.{entries_are_known}
use Rattle.mau_settling.proofs.laws.entries_are_known.Goals as goal

pub returns : goal.returns
returns c = entries_are_known
