use Rattle.mau_prove.proofs.Working.{worked_on, works_on, at_first}
use Rattle.mau_prove.proofs.memberships.reason_for.Goals as goal

pub loop-at-init : goal.loop-at-init
loop-at-init g c = at_first c.args.program.now (g.E.Evaluator.meanings c.args.evaluator.now) c.args.store.now c.args.known.now.items c.requires.working

pub by_membership_at-requires-clause-working : goal.by_membership_at-requires-clause-working
by_membership_at-requires-clause-working g c =
    works_on c.args.program.now (g.E.Evaluator.meanings c.args.evaluator.now) (g.E.Evaluator.meanings c.loop-at.evaluator) c.args.store.now c.loop-at.store c.args.known.now.items c.loop-at.known.items
    c.requires.working c.loop-at.invariant

pub loop-at-preserved : goal.loop-at-preserved
loop-at-preserved g c =
    worked_on c.args.program.now.sig (g.E.Evaluator.meanings c.args.evaluator.now) (g.E.Evaluator.meanings c.loop-at.evaluator) (g.E.Evaluator.meanings c.by_membership_at.new.evaluator) c.args.store.now c.loop-at.store c.by_membership_at.new.store
    c.loop-at.known.items c.by_membership_at.new.known.items c.loop-at.invariant c.by_membership_at.ensures

pub returns-in-Ok-Some : goal.returns-in-Ok-Some
returns-in-Ok-Some g c =
    worked_on c.args.program.now.sig (g.E.Evaluator.meanings c.args.evaluator.now) (g.E.Evaluator.meanings c.loop-at.evaluator) (g.E.Evaluator.meanings c.by_membership_at.new.evaluator) c.args.store.now c.loop-at.store c.by_membership_at.new.store
    c.loop-at.known.items c.by_membership_at.new.known.items c.loop-at.invariant c.by_membership_at.ensures

pub returns-in-Err : goal.returns-in-Err
returns-in-Err g c =
    worked_on c.args.program.now.sig (g.E.Evaluator.meanings c.args.evaluator.now) (g.E.Evaluator.meanings c.loop-at.evaluator) (g.E.Evaluator.meanings c.by_membership_at.new.evaluator) c.args.store.now c.loop-at.store c.by_membership_at.new.store
    c.loop-at.known.items c.by_membership_at.new.known.items c.loop-at.invariant c.by_membership_at.ensures
