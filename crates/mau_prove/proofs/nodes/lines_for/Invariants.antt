use Rattle.mau_prove.specs.Making.{Stand}
use Rattle.mau_prove.proofs.nodes.lines_for.Given as goal

abbrev pub invariant-loop-id : goal.invariant-loop-id
invariant-loop-id l = Stand l.program.sig l.lines
