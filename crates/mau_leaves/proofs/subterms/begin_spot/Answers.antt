use Rattle.std.proofs.Common.{◌≡◌, List, All, Vec, Global, sym, ap, ◌∙◌, subst}
use Rattle.mau_terms.specs.View.{tree_of}
use Rattle.mau_terms.specs.declared.ids.TermId.{TermId}
use Rattle.mau_terms.specs.declared.ids.VarId.{VarId}
use Rattle.mau_listing.specs.Asked.{asks}
use Rattle.mau_api.specs.Answers.{IsValueOf}
use Rattle.mau_leaves.specs.Searches.{variables_in, IsUsable}
use Rattle.mau_leaves.specs.Subterms.{IsSpot}
use Rattle.mau_leaves.proofs.SubtermTurns.{begins_spot}
use Rattle.mau_leaves.proofs.subterms.begin_spot.Goals as goal

pub start_uses-requires-clause-usable : goal.start_uses-requires-clause-usable
start_uses-requires-clause-usable g c =
    let e = c.in-Ok.ensures.items ∙ c.deref.ensures.value in
    subst (λ (bs : List (VarId × TermId)). IsUsable c.args.program.now.sig (variables_in bs) c.args.rule.now) (sym e) c.requires.subterms.usable

pub start_uses-requires-clause-values : goal.start_uses-requires-clause-values
start_uses-requires-clause-values g c =
    let e = c.in-Ok.ensures.items ∙ c.deref.ensures.value in
    subst (All (IsValueOf c.args.program.now.sig c.args.store.now (g.E.Evaluator.table c.args.evaluator.now))) (sym e) c.requires.subterms.values

pub start_uses-requires-clause-term : goal.start_uses-requires-clause-term
start_uses-requires-clause-term g c =
    let m = g.E.Evaluator.meanings c.args.evaluator.now in
    let h = c.requires.subterms in
    (subst (IsSpot g.L.Lister.asked g.L.Lister.given g.L.Lister.is_for g.L.Lister.with_context c.args.program.now m c.args.rule.now c.args.search.now.bound.items c.args.store.now (g.E.Evaluator.table c.args.evaluator.now)) c.requires.at h.spot).term

pub start_uses-requires-clause-settled : goal.start_uses-requires-clause-settled
start_uses-requires-clause-settled g c =
    let m = g.E.Evaluator.meanings c.args.evaluator.now in
    let h = c.requires.subterms in
    (subst (IsSpot g.L.Lister.asked g.L.Lister.given g.L.Lister.is_for g.L.Lister.with_context c.args.program.now m c.args.rule.now c.args.search.now.bound.items c.args.store.now (g.E.Evaluator.table c.args.evaluator.now)) c.requires.at h.spot).settled

pub returns-in-Ok-start_uses-clause-turn : goal.returns-in-Ok-start_uses-clause-turn
returns-in-Ok-start_uses-clause-turn g c = λ b.
    let m = g.E.Evaluator.meanings c.args.evaluator.now in
    let p = c.args.program.now in
    let rule = c.args.rule.now in
    let s = c.args.search.now in
    let nodes = c.args.store.now in
    let u = c.in-Ok-start_uses.uses in
    let told = c.in-Ok-start_uses.ensures in
    let e : c.in-Ok.bound.items ≡ s.bound.items = c.in-Ok.ensures.items ∙ c.deref.ensures.value in
    let asked = told.asked ∙ ap (λ (z : Vec (VarId × TermId) Global). asks (tree_of rule.left) z.items c.args.term) (sym told.bound.0) in
    begins_spot g.L.Lister.asked g.L.Lister.given p m.hooks rule s.whole s.bound.items nodes s.below s.way.items c.args.term u told.stands.0 asked (ap (λ (z : Vec (VarId × TermId) Global). z.items) told.bound.0 ∙ e) told.bound.1 s.spot c.requires.at
