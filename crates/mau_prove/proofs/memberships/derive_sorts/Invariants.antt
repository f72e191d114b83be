use Rattle.mau_sorts.specs.Table.{AreOver}
use Rattle.mau_prove.specs.Sorting.{HasWorked}
use Rattle.mau_prove.proofs.memberships.derive_sorts.Given as goal

abbrev pub invariant-loop-term : goal.invariant-loop-term
invariant-loop-term g l = record {
  worked : HasWorked l.program.sig (g.E.Evaluator.meanings l.fn.evaluator) (g.E.Evaluator.meanings l.evaluator) (g.E.Evaluator.fits l.evaluator l.store) l.fn.store l.store l.known.items;
  plain : AreOver l.program.sig.hierarchy l.plain;
}
