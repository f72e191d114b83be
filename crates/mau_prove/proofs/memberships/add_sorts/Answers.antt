use Rattle.mau_prove.proofs.Working.{worked_on, works_on, at_first}
use Rattle.mau_prove.proofs.memberships.add_sorts.Goals as goal

pub loop-sort-init : goal.loop-sort-init
loop-sort-init g c = at_first c.args.program.now (g.E.Evaluator.meanings c.args.evaluator.now) c.args.store.now c.args.known.now.items c.requires.working

pub add_sort-requires-clause-working : goal.add_sort-requires-clause-working
add_sort-requires-clause-working g c =
    works_on c.args.program.now (g.E.Evaluator.meanings c.args.evaluator.now) (g.E.Evaluator.meanings c.loop-sort.evaluator) c.args.store.now c.loop-sort.store c.args.known.now.items c.loop-sort.known.items
    c.requires.working c.loop-sort.invariant

pub loop-sort-preserved : goal.loop-sort-preserved
loop-sort-preserved g c =
    worked_on c.args.program.now.sig (g.E.Evaluator.meanings c.args.evaluator.now) (g.E.Evaluator.meanings c.loop-sort.evaluator) (g.E.Evaluator.meanings c.add_sort.new.evaluator) c.args.store.now c.loop-sort.store c.add_sort.new.store
    c.loop-sort.known.items c.add_sort.new.known.items c.loop-sort.invariant c.add_sort.ensures

pub returns-in-Err : goal.returns-in-Err
returns-in-Err g c =
    worked_on c.args.program.now.sig (g.E.Evaluator.meanings c.args.evaluator.now) (g.E.Evaluator.meanings c.loop-sort.evaluator) (g.E.Evaluator.meanings c.add_sort.new.evaluator) c.args.store.now c.loop-sort.store c.add_sort.new.store
    c.loop-sort.known.items c.add_sort.new.known.items c.loop-sort.invariant c.add_sort.ensures
