use Rattle.mau_prove.specs.Sorting.{HasWorked}
use Rattle.mau_prove.proofs.memberships.add_sorts.Given as goal

abbrev pub invariant-loop-sort : goal.invariant-loop-sort
invariant-loop-sort g l =
    HasWorked l.program.sig (g.E.Evaluator.meanings l.fn.evaluator) (g.E.Evaluator.meanings l.evaluator) (g.E.Evaluator.fits l.evaluator l.store) l.fn.store l.store l.known.items
