use Rattle.std.proofs.Common.{[], sym, subst}
use Rattle.mau_prove.specs.Making.{AreSomeKept}
use Rattle.mau_prove.proofs.Working.{worked_on, works_on, at_first}
use Rattle.mau_prove.proofs.memberships.derive_sorts.Goals as goal

pub loop-term-init : goal.loop-term-init
loop-term-init g c = record {
  worked =
      at_first c.args.program.now (g.E.Evaluator.meanings c.args.evaluator.now) c.args.store.now c.new-known.result.items
      (record { program = c.requires.program; fits = c.requires.fits; kept = subst (AreSomeKept c.args.program.now.sig c.args.store.now) (sym c.new-known.ensures.items) ([], tt) });
  plain = c.new-plain.ensures.over c.args.program.now.sig.hierarchy;
}

pub add_term-requires-clause-working : goal.add_term-requires-clause-working
add_term-requires-clause-working g c =
    works_on c.args.program.now (g.E.Evaluator.meanings c.args.evaluator.now) (g.E.Evaluator.meanings c.loop-term.evaluator) c.args.store.now c.loop-term.store [] c.loop-term.known.items
    (record { program = c.requires.program; fits = c.requires.fits; kept = ([], tt) }) c.loop-term.invariant.worked

pub loop-term-preserved : goal.loop-term-preserved
loop-term-preserved g c = record {
  worked =
      worked_on c.args.program.now.sig (g.E.Evaluator.meanings c.args.evaluator.now) (g.E.Evaluator.meanings c.loop-term.evaluator) (g.E.Evaluator.meanings c.add_term.new.evaluator) c.args.store.now c.loop-term.store c.add_term.new.store
      c.loop-term.known.items c.add_term.new.known.items c.loop-term.invariant.worked c.add_term.ensures.worked;
  plain = c.add_term.ensures.plain;
}
