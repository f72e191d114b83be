use Rattle.std.proofs.Common.{◌≡◌, Ok, Err, Some, refl, sym, ap, ◌∙◌, subst}
use Rattle.std.specs.Option.{option_map}
use Rattle.mau_listing.specs.Asked.{Asked, question_in, matcher_in, IsGiven}
use Rattle.mau_listing.proofs.Growth.{question_same}
use Rattle.mau_api.specs.Meanings.{Meanings}
use Rattle.mau_terms.specs.Tree.{Tree}
use Rattle.mau_terms.specs.View.{tree_of}
use Rattle.mau_conditional.specs.declared.next.Turn.{Turn}
use Rattle.mau_conditional.specs.NextWhere.{IsTurnOf, IfHolds, IsReadyFor, CanBeAsked}
use Rattle.mau_conditional.proofs.Turns.{holds_here, none_here, passed_here, ends_here, turn_as, grown_twice, grown_not}
use Rattle.mau_conditional.proofs.next.next_where.Goals as goal

pub ask_next-requires-clause-pattern : goal.ask_next-requires-clause-pattern
ask_next-requires-clause-pattern g c = ap (λ (a : Asked). a.pattern) c.loop.invariant.asked ∙ c.requires.pattern

pub ask_next-requires-clause-ready : goal.ask_next-requires-clause-ready
ask_next-requires-clause-ready g c =
    subst (λ (a : Asked). IsReadyFor g.L.Lister.with_context c.args.sig.now c.loop.store (g.E.Evaluator.table c.loop.evaluator) a (g.L.Lister.given c.loop.listing)) (sym c.loop.invariant.asked) c.loop.invariant.ready

pub ask_next-requires-clause-can : goal.ask_next-requires-clause-can
ask_next-requires-clause-can g c =
    subst (λ (k : Meanings). CanBeAsked c.args.sig.now k (tree_of c.args.pattern.now) c.args.cond.now) (sym c.loop.invariant.meanings) c.requires.can

pub returns-in-Ok-Holds-clause-next : goal.returns-in-Ok-Holds-clause-next
returns-in-Ok-Holds-clause-next g c =
    let w = g.L.Lister.with_context in
    let s = c.args.sig.now in
    let m = g.E.Evaluator.meanings c.args.evaluator.now in
    let cond = c.args.cond.now in
    let a = g.L.Lister.asked c.args.listing.now in
    let i = c.loop.invariant in
    let old = c.args.store.now in
    let u = question_in old a in
    let v = question_in c.loop.store (g.L.Lister.asked c.loop.listing) in
    let same : v ≡ u = ap (question_in c.loop.store) i.asked ∙ question_same old c.loop.store i.grown.extends s a c.requires.ready.can.askable in
    let from = option_map (matcher_in old) (g.L.Lister.given c.args.listing.now) in
    let last = option_map (matcher_in c.loop.store) (g.L.Lister.given c.loop.listing) in
    let began = c.args.budget.now in
    let b = c.loop.budget in
    let new = c.ask_next.new.store in
    let left = c.ask_next.new.budget in
    let now = option_map (matcher_in new) (g.L.Lister.given c.ask_next.new.listing) in
    let turn = turn_as w s m (g.E.Evaluator.meanings c.loop.evaluator) cond u v i.meanings same new last b (Ok c.in-Ok-Holds.field-0) now left c.in-Ok-Holds.ensures.turn in
    let here = subst (λ (t : Turn). IsTurnOf w s m cond u new last b (Ok t) now left) c.in-Ok-Holds.field-0-is turn in
    holds_here w s m cond u from began last b i.leads (matcher_in new c.in-Ok-Holds.solution) left here

pub returns-in-Ok-NoneLeft-clause-next : goal.returns-in-Ok-NoneLeft-clause-next
returns-in-Ok-NoneLeft-clause-next g c =
    let w = g.L.Lister.with_context in
    let s = c.args.sig.now in
    let m = g.E.Evaluator.meanings c.args.evaluator.now in
    let cond = c.args.cond.now in
    let a = g.L.Lister.asked c.args.listing.now in
    let i = c.loop.invariant in
    let old = c.args.store.now in
    let u = question_in old a in
    let v = question_in c.loop.store (g.L.Lister.asked c.loop.listing) in
    let same : v ≡ u = ap (question_in c.loop.store) i.asked ∙ question_same old c.loop.store i.grown.extends s a c.requires.ready.can.askable in
    let from = option_map (matcher_in old) (g.L.Lister.given c.args.listing.now) in
    let last = option_map (matcher_in c.loop.store) (g.L.Lister.given c.loop.listing) in
    let began = c.args.budget.now in
    let b = c.loop.budget in
    let new = c.ask_next.new.store in
    let left = c.ask_next.new.budget in
    let now = option_map (matcher_in new) (g.L.Lister.given c.ask_next.new.listing) in
    let turn = turn_as w s m (g.E.Evaluator.meanings c.loop.evaluator) cond u v i.meanings same new last b (Ok c.in-Ok-NoneLeft.field-0) now left c.in-Ok-NoneLeft.ensures.turn in
    let here = subst (λ (t : Turn). IsTurnOf w s m cond u new last b (Ok t) now left) c.in-Ok-NoneLeft.field-0-is turn in
    none_here w s m cond u from began last b i.leads left here.0 here.1

pub returns-in-Err-clause-next : goal.returns-in-Err-clause-next
returns-in-Err-clause-next g c =
    let w = g.L.Lister.with_context in
    let s = c.args.sig.now in
    let m = g.E.Evaluator.meanings c.args.evaluator.now in
    let cond = c.args.cond.now in
    let a = g.L.Lister.asked c.args.listing.now in
    let i = c.loop.invariant in
    let old = c.args.store.now in
    let u = question_in old a in
    let v = question_in c.loop.store (g.L.Lister.asked c.loop.listing) in
    let same : v ≡ u = ap (question_in c.loop.store) i.asked ∙ question_same old c.loop.store i.grown.extends s a c.requires.ready.can.askable in
    let from = option_map (matcher_in old) (g.L.Lister.given c.args.listing.now) in
    let last = option_map (matcher_in c.loop.store) (g.L.Lister.given c.loop.listing) in
    let began = c.args.budget.now in
    let b = c.loop.budget in
    let new = c.ask_next.new.store in
    let left = c.ask_next.new.budget in
    let now = option_map (matcher_in new) (g.L.Lister.given c.ask_next.new.listing) in
    let turn = turn_as w s m (g.E.Evaluator.meanings c.loop.evaluator) cond u v i.meanings same new last b (Err c.in-Err.end) now left c.in-Err.ensures.turn in
    ends_here w s m cond u from began last b i.leads new c.in-Err.end now left turn

pub loop-preserved : goal.loop-preserved
loop-preserved g c =
    let w = g.L.Lister.with_context in
    let s = c.args.sig.now in
    let m = g.E.Evaluator.meanings c.args.evaluator.now in
    let cond = c.args.cond.now in
    let a = g.L.Lister.asked c.args.listing.now in
    let i = c.loop.invariant in
    let old = c.args.store.now in
    let u = question_in old a in
    let v = question_in c.loop.store (g.L.Lister.asked c.loop.listing) in
    let same : v ≡ u = ap (question_in c.loop.store) i.asked ∙ question_same old c.loop.store i.grown.extends s a c.requires.ready.can.askable in
    let from = option_map (matcher_in old) (g.L.Lister.given c.args.listing.now) in
    let last = option_map (matcher_in c.loop.store) (g.L.Lister.given c.loop.listing) in
    let began = c.args.budget.now in
    let b = c.loop.budget in
    let new = c.ask_next.new.store in
    let left = c.ask_next.new.budget in
    let now = option_map (matcher_in new) (g.L.Lister.given c.ask_next.new.listing) in
    let turn = turn_as w s m (g.E.Evaluator.meanings c.loop.evaluator) cond u v i.meanings same new last b (Ok c.in-Ok-Passed.field-0) now left c.in-Ok-Passed.ensures.turn in
    let here = subst (λ (t : Turn). IsTurnOf w s m cond u new last b (Ok t) now left) c.in-Ok-Passed.field-0-is turn in
    record {
      asked = c.ask_next.ensures.list_asked ∙ i.asked;
      signature = c.ask_next.ensures.signature;
      ready = subst (λ (z : Asked). IsReadyFor w s new (g.E.Evaluator.table c.ask_next.new.evaluator) z (g.L.Lister.given c.ask_next.new.listing)) i.asked c.in-Ok-Passed.ensures.ready;
      grown = grown_twice old c.loop.store new (g.E.Evaluator.table c.args.evaluator.now) (g.E.Evaluator.table c.loop.evaluator) (g.E.Evaluator.table c.ask_next.new.evaluator) i.grown c.ask_next.ensures.grown;
      fits = c.ask_next.ensures.fits;
      meanings = c.ask_next.ensures.meanings ∙ i.meanings;
      leads = passed_here w s m cond u from began last b i.leads here.0 now left here.1 here.2;
    }

pub loop-init : goal.loop-init
loop-init g c =
    record {
      asked = refl;
      signature = c.requires.signature;
      ready = c.requires.ready;
      grown = grown_not c.args.store.now (g.E.Evaluator.table c.args.evaluator.now);
      fits = c.requires.fits;
      meanings = refl;
      leads = λ o after h. h;
    }

pub returns-in-Ok-Holds-clause-solves : goal.returns-in-Ok-Holds-clause-solves
returns-in-Ok-Holds-clause-solves g c =
    let w = g.L.Lister.with_context in
    let new = c.ask_next.new.store in
    let table = g.E.Evaluator.table c.ask_next.new.evaluator in
    let h = subst (IfHolds w c.args.sig.now new table (g.L.Lister.asked c.loop.listing) (g.L.Lister.given c.ask_next.new.listing)) c.in-Ok-Holds.field-0-is c.in-Ok-Holds.ensures.holds in
    subst (λ (a : Asked). IsGiven w c.args.sig.now new table a c.in-Ok-Holds.solution) c.loop.invariant.asked h.0

pub returns-in-Ok-Holds-clause-given : goal.returns-in-Ok-Holds-clause-given
returns-in-Ok-Holds-clause-given g c =
    let w = g.L.Lister.with_context in
    let new = c.ask_next.new.store in
    let table = g.E.Evaluator.table c.ask_next.new.evaluator in
    let h = subst (IfHolds w c.args.sig.now new table (g.L.Lister.asked c.loop.listing) (g.L.Lister.given c.ask_next.new.listing)) c.in-Ok-Holds.field-0-is c.in-Ok-Holds.ensures.holds in
    h.1

pub returns-in-Ok-Holds-clause-ready : goal.returns-in-Ok-Holds-clause-ready
returns-in-Ok-Holds-clause-ready g c =
    subst (λ (a : Asked). IsReadyFor g.L.Lister.with_context c.args.sig.now c.ask_next.new.store (g.E.Evaluator.table c.ask_next.new.evaluator) a (g.L.Lister.given c.ask_next.new.listing)) c.loop.invariant.asked c.in-Ok-Holds.ensures.ready

pub returns-in-Ok-NoneLeft-clause-ready : goal.returns-in-Ok-NoneLeft-clause-ready
returns-in-Ok-NoneLeft-clause-ready g c =
    subst (λ (a : Asked). IsReadyFor g.L.Lister.with_context c.args.sig.now c.ask_next.new.store (g.E.Evaluator.table c.ask_next.new.evaluator) a (g.L.Lister.given c.ask_next.new.listing)) c.loop.invariant.asked c.in-Ok-NoneLeft.ensures.ready

pub returns-in-Ok-Holds-clause-grown : goal.returns-in-Ok-Holds-clause-grown
returns-in-Ok-Holds-clause-grown g c =
    grown_twice c.args.store.now c.loop.store c.ask_next.new.store (g.E.Evaluator.table c.args.evaluator.now) (g.E.Evaluator.table c.loop.evaluator) (g.E.Evaluator.table c.ask_next.new.evaluator) c.loop.invariant.grown c.ask_next.ensures.grown

pub returns-in-Ok-NoneLeft-clause-grown : goal.returns-in-Ok-NoneLeft-clause-grown
returns-in-Ok-NoneLeft-clause-grown g c =
    grown_twice c.args.store.now c.loop.store c.ask_next.new.store (g.E.Evaluator.table c.args.evaluator.now) (g.E.Evaluator.table c.loop.evaluator) (g.E.Evaluator.table c.ask_next.new.evaluator) c.loop.invariant.grown c.ask_next.ensures.grown

pub returns-in-Err-clause-grown : goal.returns-in-Err-clause-grown
returns-in-Err-clause-grown g c =
    grown_twice c.args.store.now c.loop.store c.ask_next.new.store (g.E.Evaluator.table c.args.evaluator.now) (g.E.Evaluator.table c.loop.evaluator) (g.E.Evaluator.table c.ask_next.new.evaluator) c.loop.invariant.grown c.ask_next.ensures.grown
