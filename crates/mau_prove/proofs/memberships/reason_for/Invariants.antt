use Rattle.mau_prove.specs.Sorting.{HasWorked}
use Rattle.mau_prove.proofs.memberships.reason_for.Given as goal

abbrev pub invariant-loop-at : goal.invariant-loop-at
invariant-loop-at g l =
    HasWorked l.program.sig (g.E.Evaluator.meanings l.fn.evaluator) (g.E.Evaluator.meanings l.evaluator) (g.E.Evaluator.fits l.evaluator l.store) l.fn.store l.store l.known.items
