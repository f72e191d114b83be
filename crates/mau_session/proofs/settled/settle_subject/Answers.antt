use Rattle.std.proofs.Common.{◌≡◌, IfErr, sym, ap, ◌∙◌, subst}
use Rattle.std.proofs.lemmas.Result.{on_ok_weaker}
use Rattle.mau_api.specs.Meanings.{Meanings}
use Rattle.mau_api.specs.Answers.{IsDerivedTable, MayEnd}
use Rattle.mau_conditional.proofs.Ready.{over_of}
use Rattle.std.proofs.Common.{refl}
use Rattle.mau_session.proofs.Fresh.{settled_ready, settled_same, subject_known}
use Rattle.mau_session.proofs.settled.settle_subject.Goals as goal

pub settle-requires-clause-term : goal.settle-requires-clause-term
settle-requires-clause-term g c = record { within = c.requires.query.askable.subject; bare = c.requires.query.askable.bare }

pub returns-clause-ready : goal.returns-clause-ready
returns-clause-ready g c =
    let m = g.E.Evaluator.meanings c.args.evaluator.now in
    let s = m.program.sig in
    let q = c.args.query.now in
    let e = c.settle.ensures in
    let table = g.E.Evaluator.table c.settle.new.self in
    let over = over_of m (g.E.Evaluator.meanings c.settle.new.self) e.meanings s refl c.settle.new.store table (g.met.E.Evaluator.derived c.settle.new.self c.settle.new.store e.fits) in
    on_ok_weaker c.settle.result (λ settled. settled_ready s q c.requires.query c.requires.first c.settle.new.store e.extends table settled over) e.settled

pub returns-clause-known : goal.returns-clause-known
returns-clause-known g c =
    let m = g.E.Evaluator.meanings c.args.evaluator.now in
    let e = c.settle.ensures in
    let table = g.E.Evaluator.table c.settle.new.self in
    let derived = subst (λ (n : Meanings). IsDerivedTable n c.settle.new.store table) e.meanings (g.met.E.Evaluator.derived c.settle.new.self c.settle.new.store e.fits) in
    on_ok_weaker c.settle.result (λ settled. subject_known m c.args.query.now c.requires.query c.settle.new.store table derived settled) e.settled

pub returns-clause-ends : goal.returns-clause-ends
returns-clause-ends g c = subst (λ t. IfErr c.settle.result (MayEnd (g.E.Evaluator.meanings c.args.evaluator.now) t)) c.requires.query.stands c.settle.ensures.ends

pub returns-clause-same : goal.returns-clause-same
returns-clause-same g c = settled_same c.args.query.now c.requires.first c.settle.new.store
