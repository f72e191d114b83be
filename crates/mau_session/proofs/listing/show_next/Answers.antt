use Rattle.std.proofs.Common.{◌≡◌, ◌+◌, Option, Some, IfSome, false, true, sym, ap, ◌∙◌, subst}
use Rattle.std.specs.Option.{option_map}
use Rattle.mau_signature.specs.Signature.{SignatureOf}
use Rattle.mau_listing.specs.declared.solution.Solution.{Solution}
use Rattle.mau_listing.specs.Asked.{Asked, matcher_in, IsGiven, CanGoOn}
use Rattle.mau_conditional.proofs.Ready.{over_of}
use Rattle.mau_session.specs.declared.query.Query.{Query}
use Rattle.mau_session.specs.KeptQuery.{query_of, asked_for, IsReady}
use Rattle.mau_session.specs.Next.{ShowsNext, shows_one, shows_none}
use Rattle.mau_session.proofs.Listed.{answers_here, given_here, nothing_next, something_next, grown, grown_over, grown_ready, grown_same, advanced_ready, advanced_same}
use Rattle.mau_session.proofs.listing.show_next.Goals as goal

pub list-requires-clause-signature : goal.list-requires-clause-signature
list-requires-clause-signature g c =
    subst (λ (z : SignatureOf). g.L.Lister.is_for c.args.listing.now z) c.requires.goes.signature c.requires.signature

pub list-requires-clause-ready : goal.list-requires-clause-ready
list-requires-clause-ready g c =
    let q = c.args.query.now in
    let table = g.E.Evaluator.table c.args.evaluator.now in
    let r = (g.E.Evaluator.meanings c.args.evaluator.now).program.sig in
    let own = subst (λ (z : SignatureOf). CanGoOn q.with_context z q.store table (asked_for q) q.last) c.requires.goes.signature c.requires.ready.listing.can in
    subst (λ w. CanGoOn w r q.store table (g.L.Lister.asked c.args.listing.now) (g.L.Lister.given c.args.listing.now)) (sym c.requires.contexts)
    (subst (λ (a : Asked). CanGoOn q.with_context r q.store table a (g.L.Lister.given c.args.listing.now)) (sym c.requires.asked) (subst (λ (l : Option Solution). CanGoOn q.with_context r q.store table (asked_for q) l) (sym c.requires.given) own))

pub returns-in-None-clause-shown : goal.returns-in-None-clause-shown
returns-in-None-clause-shown g c =
    let m = c.args.module.now in
    let q = c.args.query.now in
    let M = g.E.Evaluator.meanings c.args.evaluator.now in
    let ready = c.requires.ready in
    let goes = c.requires.goes in
    let r = M.program.sig in
    let e = c.in_ok-list.ensures in
    let new = c.list.new.store in
    let before = g.E.Evaluator.table c.args.evaluator.now in
    let after = g.E.Evaluator.table c.list.new.self in
    let w = g.L.Lister.with_context in
    let a = g.L.Lister.asked c.args.listing.now in
    let over = over_of M (g.E.Evaluator.meanings c.list.new.self) e.meanings m.signature goes.signature new after (g.met.E.Evaluator.derived c.list.new.self new e.fits) in
    let derived = g.met.E.Evaluator.derived c.args.evaluator.now q.store c.requires.fits in
    let answer = answers_here m M goes q before ready derived (option_map (matcher_in new) c.in_ok-list.field-0) w a (g.L.Lister.given c.args.listing.now) c.requires.contexts c.requires.asked c.requires.given e.next in
    subst (λ k. ShowsNext m M (query_of q) c.args.out.now.items k c.args.out.now.items false) (sym (grown_same m.signature q new e.extends before ready))
    (shows_none (nothing_next m M q ready.query _ (ap (option_map (matcher_in new)) c.in-None.is) answer))

pub returns-in-None-clause-ready : goal.returns-in-None-clause-ready
returns-in-None-clause-ready g c =
    let m = c.args.module.now in
    let q = c.args.query.now in
    let M = g.E.Evaluator.meanings c.args.evaluator.now in
    let ready = c.requires.ready in
    let goes = c.requires.goes in
    let r = M.program.sig in
    let e = c.in_ok-list.ensures in
    let new = c.list.new.store in
    let before = g.E.Evaluator.table c.args.evaluator.now in
    let after = g.E.Evaluator.table c.list.new.self in
    let w = g.L.Lister.with_context in
    let a = g.L.Lister.asked c.args.listing.now in
    let over = over_of M (g.E.Evaluator.meanings c.list.new.self) e.meanings m.signature goes.signature new after (g.met.E.Evaluator.derived c.list.new.self new e.fits) in
    grown_ready m.signature q new e.extends before after e.kept over ready

pub show_solution-requires-clause-query : goal.show_solution-requires-clause-query
show_solution-requires-clause-query g c =
    let q = c.args.query.now in
    grown_over c.args.module.now.signature q c.list.new.store c.in_ok-list.ensures.extends c.requires.ready.query

pub show_solution-requires-clause-given : goal.show_solution-requires-clause-given
show_solution-requires-clause-given g c =
    let m = c.args.module.now in
    let q = c.args.query.now in
    let M = g.E.Evaluator.meanings c.args.evaluator.now in
    let ready = c.requires.ready in
    let goes = c.requires.goes in
    let r = M.program.sig in
    let e = c.in_ok-list.ensures in
    let new = c.list.new.store in
    let before = g.E.Evaluator.table c.args.evaluator.now in
    let after = g.E.Evaluator.table c.list.new.self in
    let w = g.L.Lister.with_context in
    let a = g.L.Lister.asked c.args.listing.now in
    let over = over_of M (g.E.Evaluator.meanings c.list.new.self) e.meanings m.signature goes.signature new after (g.met.E.Evaluator.derived c.list.new.self new e.fits) in
    let x = c.in-Some.solution in
    let given = given_here m q w r a c.requires.contexts (sym goes.signature) c.requires.asked new after x (subst (λ o. IfSome o (IsGiven w r new after a)) c.in-Some.is e.solves) in
    (after, given)

pub returns-in_ok-show_solution-in-Some-clause-ready : goal.returns-in_ok-show_solution-in-Some-clause-ready
returns-in_ok-show_solution-in-Some-clause-ready g c =
    let m = c.args.module.now in
    let q = c.args.query.now in
    let M = g.E.Evaluator.meanings c.args.evaluator.now in
    let ready = c.requires.ready in
    let goes = c.requires.goes in
    let r = M.program.sig in
    let e = c.in_ok-list.ensures in
    let new = c.list.new.store in
    let before = g.E.Evaluator.table c.args.evaluator.now in
    let after = g.E.Evaluator.table c.list.new.self in
    let w = g.L.Lister.with_context in
    let a = g.L.Lister.asked c.args.listing.now in
    let over = over_of M (g.E.Evaluator.meanings c.list.new.self) e.meanings m.signature goes.signature new after (g.met.E.Evaluator.derived c.list.new.self new e.fits) in
    let x = c.in-Some.solution in
    let given = given_here m q w r a c.requires.contexts (sym goes.signature) c.requires.asked new after x (subst (λ o. IfSome o (IsGiven w r new after a)) c.in-Some.is e.solves) in
    let here = grown m.signature q new e.extends in
    let now = grown_ready m.signature q new e.extends before after e.kept over ready in
    subst (λ (k : Query). IsReady m.signature after k) (sym c.in_ok-show_solution-in-Some.ensures.shown)
    (advanced_ready m here now.query after x given c.show_solution.new.query.store c.show_solution.ensures.extends (q.shown + 1) over now)

pub returns-in_ok-show_solution-in-Some-clause-fits : goal.returns-in_ok-show_solution-in-Some-clause-fits
returns-in_ok-show_solution-in-Some-clause-fits g c =
    g.met.E.Evaluator.grows c.list.new.self c.list.new.store c.show_solution.new.query.store c.show_solution.ensures.extends c.in_ok-list.ensures.fits

pub returns-in_ok-show_solution-in-Some-clause-contexts : goal.returns-in_ok-show_solution-in-Some-clause-contexts
returns-in_ok-show_solution-in-Some-clause-contexts g c =
    ap (λ (k : Query). k.with_context) c.in_ok-show_solution-in-Some.ensures.shown

pub returns-in_ok-show_solution-in-Some-clause-shown : goal.returns-in_ok-show_solution-in-Some-clause-shown
returns-in_ok-show_solution-in-Some-clause-shown g c =
    let m = c.args.module.now in
    let q = c.args.query.now in
    let M = g.E.Evaluator.meanings c.args.evaluator.now in
    let ready = c.requires.ready in
    let goes = c.requires.goes in
    let r = M.program.sig in
    let e = c.in_ok-list.ensures in
    let new = c.list.new.store in
    let before = g.E.Evaluator.table c.args.evaluator.now in
    let after = g.E.Evaluator.table c.list.new.self in
    let w = g.L.Lister.with_context in
    let a = g.L.Lister.asked c.args.listing.now in
    let over = over_of M (g.E.Evaluator.meanings c.list.new.self) e.meanings m.signature goes.signature new after (g.met.E.Evaluator.derived c.list.new.self new e.fits) in
    let derived = g.met.E.Evaluator.derived c.args.evaluator.now q.store c.requires.fits in
    let answer = answers_here m M goes q before ready derived (option_map (matcher_in new) c.in_ok-list.field-0) w a (g.L.Lister.given c.args.listing.now) c.requires.contexts c.requires.asked c.requires.given e.next in
    let x = c.in-Some.solution in
    let given = given_here m q w r a c.requires.contexts (sym goes.signature) c.requires.asked new after x (subst (λ o. IfSome o (IsGiven w r new after a)) c.in-Some.is e.solves) in
    let out = c.args.out.now.items in
    let here = grown m.signature q new e.extends in
    let now = grown_ready m.signature q new e.extends before after e.kept over ready in
    let next = something_next m M q ready.query (matcher_in new x) _ (ap (option_map (matcher_in new)) c.in-Some.is) answer in
    let same = advanced_same m here now.query after x given c.show_solution.new.query.store c.show_solution.ensures.extends in
    subst (λ k. ShowsNext m M (query_of q) out k c.show_solution.new.out.items true)
    (sym (ap query_of c.in_ok-show_solution-in-Some.ensures.shown ∙ ap (λ f. record (query_of q) { last = Some f; shown = q.shown + 1 }) same))
    (subst (λ bytes. ShowsNext m M (query_of q) out (record (query_of q) { last = Some (matcher_in new x); shown = q.shown + 1 }) bytes true) (sym c.in_ok-show_solution-in-Some.ensures.gained) (shows_one (matcher_in new x) next))
