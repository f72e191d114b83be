use Rattle.std.proofs.Common.{take}
use Rattle.mau_check.specs.Said.{AreEnds}
use Rattle.mau_check.proofs.plain.ends_of.Given as goal

abbrev pub invariant-loop-said : goal.invariant-loop-said
invariant-loop-said l = AreEnds (take l.said-index l.uses) l.equations l.starts.items l.ends.items
