use Rattle.mau_prove.specs.Making.{Stand}
use Rattle.mau_prove.proofs.told_sorts.add_sorts.Given as goal

abbrev pub invariant-loop-derived : goal.invariant-loop-derived
invariant-loop-derived l = Stand l.program.sig l.making.lines
