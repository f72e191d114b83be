use Rattle.mau_program.specs.LawfulStatements.{IsLawfulMembership}
use Rattle.mau_prove.proofs.Working.{at_first, read_all}
use Rattle.mau_prove.proofs.memberships.by_membership_at.Goals as goal

pub by_membership-requires-clause-membership : goal.by_membership-requires-clause-membership
by_membership-requires-clause-membership g c =
    read_all (IsLawfulMembership c.args.program.now.sig) c.items.result.now c.args.program.now.memberships c.args.at c.in-Some.membership.now c.requires.lawful.memberships c.in-Some.ensures.lookup.0 c.in-Some.ensures.lookup.1 c.items.ensures

pub returns-then-membership-sort : goal.returns-then-membership-sort
returns-then-membership-sort g c = at_first c.args.program.now (g.E.Evaluator.meanings c.args.evaluator.now) c.args.store.now c.args.known.now.items c.requires.working

pub returns-in-None : goal.returns-in-None
returns-in-None g c = at_first c.args.program.now (g.E.Evaluator.meanings c.args.evaluator.now) c.args.store.now c.args.known.now.items c.requires.working
