use Rattle.mau_prove.specs.Sorting.{HasWorked}
use Rattle.mau_prove.proofs.memberships.try_all.Given as goal

abbrev pub invariant-loop-solution : goal.invariant-loop-solution
invariant-loop-solution g l =
    HasWorked l.program.sig (g.E.Evaluator.meanings l.fn.evaluator) (g.E.Evaluator.meanings l.evaluator) (g.E.Evaluator.fits l.evaluator l.store) l.fn.store l.store l.known.items
