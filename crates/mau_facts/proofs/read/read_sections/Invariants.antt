use Rattle.std.proofs.Common.{length}
use Rattle.mau_facts.specs.Fronts.{IsReadTo}
use Rattle.mau_facts.proofs.read.read_sections.Given as goal

abbrev pub invariant-loop-line : goal.invariant-loop-line
invariant-loop-line l = IsReadTo l.bytes l.rest l.progress

abbrev pub decreases-loop-line : goal.decreases-loop-line
decreases-loop-line l = length l.rest
