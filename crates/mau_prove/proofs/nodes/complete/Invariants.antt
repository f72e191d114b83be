use Rattle.mau_prove.specs.Making.{Stand}
use Rattle.mau_prove.proofs.nodes.complete.Given as goal

abbrev pub invariant-loop-i : goal.invariant-loop-i
invariant-loop-i l = Stand l.program.sig l.lines
