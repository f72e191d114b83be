use Rattle.std.proofs.Common.{◌≡◌, ◌+◌, Option, Some, IfSome, refl, sym, ap, ◌∙◌, subst}
use Rattle.mau_listing.specs.declared.solution.Solution.{Solution}
use Rattle.mau_listing.specs.Asked.{Asked, matcher_in, IsGiven}
use Rattle.mau_conditional.specs.NextWhere.{IsReadyFor}
use Rattle.mau_conditional.proofs.Ready.{over_of}
use Rattle.mau_session.specs.declared.query.Query.{Query}
use Rattle.mau_session.specs.KeptQuery.{query_of, asked_for, IsReady}
use Rattle.mau_session.proofs.Listed.{given_here, grown, grown_over, grown_ready, grown_same, advanced_ready, advanced_same}
use Rattle.mau_session.proofs.ListedWhere.{none_shown_where, ends_shown_where, one_comes}
use Rattle.mau_session.proofs.listing_where.show_next_where.Goals as goal

pub next_where-next-requires-clause-ready : goal.next_where-next-requires-clause-ready
next_where-next-requires-clause-ready g c =
    let m = c.args.module.now in
    let q = c.args.kept.now.query in
    let s = c.signature.result.now in
    let table = g.E.Evaluator.table c.args.evaluator.now in
    let own = subst (λ z. IsReadyFor q.with_context z q.store table (asked_for q) q.last) (sym c.signature.ensures.value) c.requires.ready.listing in
    subst (λ w. IsReadyFor w s q.store table (g.L.Lister.asked c.args.listing.now) (g.L.Lister.given c.args.listing.now)) (sym c.requires.contexts)
    (subst (λ (a : Asked). IsReadyFor q.with_context s q.store table a (g.L.Lister.given c.args.listing.now)) (sym c.requires.asked) (subst (λ (l : Option Solution). IsReadyFor q.with_context s q.store table (asked_for q) l) (sym c.requires.given) own))

pub show_solution-requires-clause-query : goal.show_solution-requires-clause-query
show_solution-requires-clause-query g c =
    grown_over c.args.module.now.signature c.args.kept.now.query c.next_where-next.new.store c.next_where-next.ensures.grown.extends c.requires.ready.query

pub show_solution-requires-clause-given : goal.show_solution-requires-clause-given
show_solution-requires-clause-given g c =
    let m = c.args.module.now in
    let q = c.args.kept.now.query in
    let ready = c.requires.ready in
    let M = g.E.Evaluator.meanings c.args.evaluator.now in
    let s = c.signature.result.now in
    let es : s ≡ m.signature = c.signature.ensures.value in
    let w = g.L.Lister.with_context in
    let a = g.L.Lister.asked c.args.listing.now in
    let given = g.L.Lister.given c.args.listing.now in
    let new = c.next_where-next.new.store in
    let b = c.args.budget.now in
    let left = c.next_where-next.new.budget in
    let h = c.next_where-next.ensures.grown in
    let before = g.E.Evaluator.table c.args.evaluator.now in
    let after = g.E.Evaluator.table c.next_where-next.new.evaluator in
    let x = c.in-Ok-Some.solution in
    let is = given_here m q w s a c.requires.contexts es c.requires.asked new after x (subst (λ (o : Option Solution). IfSome o (IsGiven w s new after a)) c.in-Ok-Some.field-0-is c.in-Ok-Some.ensures.solves) in
    (after, is)

pub returns-in-Ok-None-clause-ready : goal.returns-in-Ok-None-clause-ready
returns-in-Ok-None-clause-ready g c =
    let m = c.args.module.now in
    let q = c.args.kept.now.query in
    let ready = c.requires.ready in
    let M = g.E.Evaluator.meanings c.args.evaluator.now in
    let s = c.signature.result.now in
    let es : s ≡ m.signature = c.signature.ensures.value in
    let w = g.L.Lister.with_context in
    let a = g.L.Lister.asked c.args.listing.now in
    let given = g.L.Lister.given c.args.listing.now in
    let new = c.next_where-next.new.store in
    let b = c.args.budget.now in
    let left = c.next_where-next.new.budget in
    let h = c.next_where-next.ensures.grown in
    let before = g.E.Evaluator.table c.args.evaluator.now in
    let after = g.E.Evaluator.table c.next_where-next.new.evaluator in
    let over = over_of M (g.E.Evaluator.meanings c.next_where-next.new.evaluator) c.next_where-next.ensures.meanings m.signature c.requires.can.signature new after
    (g.met.E.Evaluator.derived c.next_where-next.new.evaluator new c.next_where-next.ensures.fits) in
    let now = grown_ready m.signature q new h.extends before after h.kept over ready in
    now

pub returns-in-Ok-clause-ready : goal.returns-in-Ok-clause-ready
returns-in-Ok-clause-ready g c =
    let m = c.args.module.now in
    let q = c.args.kept.now.query in
    let ready = c.requires.ready in
    let M = g.E.Evaluator.meanings c.args.evaluator.now in
    let s = c.signature.result.now in
    let es : s ≡ m.signature = c.signature.ensures.value in
    let w = g.L.Lister.with_context in
    let a = g.L.Lister.asked c.args.listing.now in
    let given = g.L.Lister.given c.args.listing.now in
    let new = c.next_where-next.new.store in
    let b = c.args.budget.now in
    let left = c.next_where-next.new.budget in
    let h = c.next_where-next.ensures.grown in
    let before = g.E.Evaluator.table c.args.evaluator.now in
    let after = g.E.Evaluator.table c.next_where-next.new.evaluator in
    let over = over_of M (g.E.Evaluator.meanings c.next_where-next.new.evaluator) c.next_where-next.ensures.meanings m.signature c.requires.can.signature new after
    (g.met.E.Evaluator.derived c.next_where-next.new.evaluator new c.next_where-next.ensures.fits) in
    let now = grown_ready m.signature q new h.extends before after h.kept over ready in
    let x = c.in-Ok-Some.solution in
    let is = given_here m q w s a c.requires.contexts es c.requires.asked new after x (subst (λ (o : Option Solution). IfSome o (IsGiven w s new after a)) c.in-Ok-Some.field-0-is c.in-Ok-Some.ensures.solves) in
    let here = grown m.signature q new h.extends in
    subst (λ (k : Query). IsReady m.signature after k) (sym c.in-Ok.ensures.shown) (advanced_ready m here now.query after x is c.show_solution.new.query.store c.show_solution.ensures.extends (q.shown + 1) over now)

pub returns-in-Ok-clause-fits : goal.returns-in-Ok-clause-fits
returns-in-Ok-clause-fits g c =
    g.met.E.Evaluator.grows c.next_where-next.new.evaluator c.next_where-next.new.store c.show_solution.new.query.store c.show_solution.ensures.extends c.next_where-next.ensures.fits

pub returns-in-Err-clause-shown : goal.returns-in-Err-clause-shown
returns-in-Err-clause-shown g c =
    let m = c.args.module.now in
    let q = c.args.kept.now.query in
    let ready = c.requires.ready in
    let M = g.E.Evaluator.meanings c.args.evaluator.now in
    let s = c.signature.result.now in
    let es : s ≡ m.signature = c.signature.ensures.value in
    let w = g.L.Lister.with_context in
    let a = g.L.Lister.asked c.args.listing.now in
    let given = g.L.Lister.given c.args.listing.now in
    let new = c.next_where-next.new.store in
    let b = c.args.budget.now in
    let left = c.next_where-next.new.budget in
    let h = c.next_where-next.ensures.grown in
    let before = g.E.Evaluator.table c.args.evaluator.now in
    let after = g.E.Evaluator.table c.next_where-next.new.evaluator in
    ends_shown_where m q ready.query M c.args.kept.now.cond w s c.items.result.now a given c.requires.contexts es c.items.ensures c.requires.asked c.requires.given b left
    (query_of (record q { store = new })) (grown_same m.signature q new h.extends before ready) c.args.out.now.items new c.in-Err.end c.in-Err.ensures.next

pub returns-in-Ok-None-clause-shown : goal.returns-in-Ok-None-clause-shown
returns-in-Ok-None-clause-shown g c =
    let m = c.args.module.now in
    let q = c.args.kept.now.query in
    let ready = c.requires.ready in
    let M = g.E.Evaluator.meanings c.args.evaluator.now in
    let s = c.signature.result.now in
    let es : s ≡ m.signature = c.signature.ensures.value in
    let w = g.L.Lister.with_context in
    let a = g.L.Lister.asked c.args.listing.now in
    let given = g.L.Lister.given c.args.listing.now in
    let new = c.next_where-next.new.store in
    let b = c.args.budget.now in
    let left = c.next_where-next.new.budget in
    let h = c.next_where-next.ensures.grown in
    let before = g.E.Evaluator.table c.args.evaluator.now in
    let after = g.E.Evaluator.table c.next_where-next.new.evaluator in
    none_shown_where m q ready.query M c.args.kept.now.cond w s c.items.result.now a given c.requires.contexts es c.items.ensures c.requires.asked c.requires.given b left
    (query_of (record q { store = new })) (grown_same m.signature q new h.extends before ready) c.args.out.now.items new c.in-Ok-None.field-0 c.in-Ok-None.field-0-is c.in-Ok-None.ensures.next

pub returns-in-Ok-clause-shown : goal.returns-in-Ok-clause-shown
returns-in-Ok-clause-shown g c =
    let m = c.args.module.now in
    let q = c.args.kept.now.query in
    let ready = c.requires.ready in
    let M = g.E.Evaluator.meanings c.args.evaluator.now in
    let s = c.signature.result.now in
    let es : s ≡ m.signature = c.signature.ensures.value in
    let w = g.L.Lister.with_context in
    let a = g.L.Lister.asked c.args.listing.now in
    let given = g.L.Lister.given c.args.listing.now in
    let new = c.next_where-next.new.store in
    let b = c.args.budget.now in
    let left = c.next_where-next.new.budget in
    let h = c.next_where-next.ensures.grown in
    let before = g.E.Evaluator.table c.args.evaluator.now in
    let after = g.E.Evaluator.table c.next_where-next.new.evaluator in
    let over = over_of M (g.E.Evaluator.meanings c.next_where-next.new.evaluator) c.next_where-next.ensures.meanings m.signature c.requires.can.signature new after
    (g.met.E.Evaluator.derived c.next_where-next.new.evaluator new c.next_where-next.ensures.fits) in
    let now = grown_ready m.signature q new h.extends before after h.kept over ready in
    let x = c.in-Ok-Some.solution in
    let is = given_here m q w s a c.requires.contexts es c.requires.asked new after x (subst (λ (o : Option Solution). IfSome o (IsGiven w s new after a)) c.in-Ok-Some.field-0-is c.in-Ok-Some.ensures.solves) in
    let here = grown m.signature q new h.extends in
    let same = advanced_same m here now.query after x is c.show_solution.new.query.store c.show_solution.ensures.extends in
    record {
      matcher = matcher_in new x;
      is = one_comes m q ready.query M c.args.kept.now.cond w s c.items.result.now a given c.requires.contexts es c.items.ensures c.requires.asked c.requires.given b left new c.in-Ok-Some.field-0 x c.in-Ok-Some.field-0-is c.in-Ok-Some.ensures.next;
      after = ap query_of c.in-Ok.ensures.shown ∙ ap (λ f. record (query_of q) { last = Some f; shown = q.shown + 1 }) same;
      gained = c.in-Ok.ensures.gained;
    }
