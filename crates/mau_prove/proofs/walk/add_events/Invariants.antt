use Rattle.mau_prove.specs.Making.{Stand}
use Rattle.mau_prove.proofs.walk.add_events.Given as goal

abbrev pub invariant-loop-event : goal.invariant-loop-event
invariant-loop-event l = Stand l.program.sig l.making.lines
