use Rattle.std.proofs.Common.{sym, subst}
use Rattle.mau_store.proofs.Growth.{extension_is_preorder}
use Rattle.mau_sorts.proofs.Settling.{kept_same}
use Rattle.mau_leaves.specs.Subterms.{IsAtOne, IsSpot}
use Rattle.mau_leaves.specs.declared.subterms.Spot.{Spot}
use Rattle.mau_leaves.proofs.subterms.turn_below.Goals as goal

pub begin_spot-requires-clause-at : goal.begin_spot-requires-clause-at
begin_spot-requires-clause-at g c = c.in-Before.is

pub returns-in-Before-clause-turn : goal.returns-in-Before-clause-turn
returns-in-Before-clause-turn g c = c.begin_spot.ensures.turn c.args.limit

pub returns-in-Before-clause-extends : goal.returns-in-Before-clause-extends
returns-in-Before-clause-extends g c = extension_is_preorder.reflexive c.args.store.now

pub returns-in-Before-clause-kept : goal.returns-in-Before-clause-kept
returns-in-Before-clause-kept g c = kept_same (g.E.Evaluator.table c.args.evaluator.now)

pub go_through_spot-requires-clause-at : goal.go_through_spot-requires-clause-at
go_through_spot-requires-clause-at g c = subst (λ (k : Spot g.row.L.Denot). IsAtOne k) (sym c.in-At.is) tt

pub go_on-requires-clause-there : goal.go_on-requires-clause-there
go_on-requires-clause-there g c =
    let m = g.E.Evaluator.meanings c.args.evaluator.now in
    let h = c.requires.subterms in
    (subst (IsSpot g.L.Lister.asked g.L.Lister.given g.L.Lister.is_for g.L.Lister.with_context c.args.program.now m c.args.rule.now c.args.search.now.bound.items c.args.store.now (g.E.Evaluator.table c.args.evaluator.now)) c.in-Behind.is h.spot).term.within.there

pub go_on-requires-clause-at : goal.go_on-requires-clause-at
go_on-requires-clause-at g c = c.in-Behind.is

pub returns-in-Behind-clause-turn : goal.returns-in-Behind-clause-turn
returns-in-Behind-clause-turn g c = c.go_on.ensures.turn c.args.program.now (g.E.Evaluator.meanings c.args.evaluator.now).hooks c.args.rule.now c.args.limit

pub returns-in-Behind-clause-subterms : goal.returns-in-Behind-clause-subterms
returns-in-Behind-clause-subterms g c =
    c.go_on.ensures.subterms g.L.Lister.with_context c.args.program.now (g.E.Evaluator.meanings c.args.evaluator.now) c.args.rule.now (g.E.Evaluator.table c.args.evaluator.now) c.requires.runnable.reducible.lawful c.requires.subterms

pub returns-in-Behind-clause-extends : goal.returns-in-Behind-clause-extends
returns-in-Behind-clause-extends g c = extension_is_preorder.reflexive c.args.store.now

pub returns-in-Behind-clause-kept : goal.returns-in-Behind-clause-kept
returns-in-Behind-clause-kept g c = kept_same (g.E.Evaluator.table c.args.evaluator.now)
