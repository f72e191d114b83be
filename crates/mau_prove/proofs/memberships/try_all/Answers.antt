use Rattle.mau_prove.proofs.Working.{worked_on, works_on, at_first}
use Rattle.mau_prove.proofs.memberships.try_all.Goals as goal

pub loop-solution-init : goal.loop-solution-init
loop-solution-init g c = at_first c.args.program.now (g.E.Evaluator.meanings c.args.evaluator.now) c.args.store.now c.args.known.now.items c.requires.working

pub try_solution-requires-clause-working : goal.try_solution-requires-clause-working
try_solution-requires-clause-working g c =
    works_on c.args.program.now (g.E.Evaluator.meanings c.args.evaluator.now) (g.E.Evaluator.meanings c.loop-solution.evaluator) c.args.store.now c.loop-solution.store c.args.known.now.items c.loop-solution.known.items
    c.requires.working c.loop-solution.invariant

pub loop-solution-preserved : goal.loop-solution-preserved
loop-solution-preserved g c =
    worked_on c.args.program.now.sig (g.E.Evaluator.meanings c.args.evaluator.now) (g.E.Evaluator.meanings c.loop-solution.evaluator) (g.E.Evaluator.meanings c.try_solution.new.evaluator) c.args.store.now c.loop-solution.store c.try_solution.new.store
    c.loop-solution.known.items c.try_solution.new.known.items c.loop-solution.invariant c.try_solution.ensures

pub returns-in-Ok-Some : goal.returns-in-Ok-Some
returns-in-Ok-Some g c =
    worked_on c.args.program.now.sig (g.E.Evaluator.meanings c.args.evaluator.now) (g.E.Evaluator.meanings c.loop-solution.evaluator) (g.E.Evaluator.meanings c.try_solution.new.evaluator) c.args.store.now c.loop-solution.store c.try_solution.new.store
    c.loop-solution.known.items c.try_solution.new.known.items c.loop-solution.invariant c.try_solution.ensures

pub returns-in-Err : goal.returns-in-Err
returns-in-Err g c =
    worked_on c.args.program.now.sig (g.E.Evaluator.meanings c.args.evaluator.now) (g.E.Evaluator.meanings c.loop-solution.evaluator) (g.E.Evaluator.meanings c.try_solution.new.evaluator) c.args.store.now c.loop-solution.store c.try_solution.new.store
    c.loop-solution.known.items c.try_solution.new.known.items c.loop-solution.invariant c.try_solution.ensures
