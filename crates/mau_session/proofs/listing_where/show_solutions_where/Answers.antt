use Rattle.std.proofs.Common.{◌≡◌, ◌<◌, ◌+◌, Bool, true, false, Ok, Err, refl, sym, ap, ◌∙◌, subst, arith}
use Rattle.std.specs.Prelude.{unwrap_or}
use Rattle.mau_terms.specs.View.{tree_of}
use Rattle.mau_terms.specs.declared.bare.Bare.{Bare}
use Rattle.mau_program.specs.declared.statements.Fragment.{Fragment}
use Rattle.std.proofs.Common.{List}
use Rattle.mau_api.specs.Meanings.{Meanings}
use Rattle.mau_conditional.specs.NextWhere.{CanBeAsked}
use Rattle.mau_conditional.specs.Where.{bound_reached}
use Rattle.mau_session.specs.KeptQuery.{query_of}
use Rattle.mau_session.specs.KeptWhere.{ShowsNextWhere, GainsMatchersWhere}
use Rattle.mau_session.proofs.ProgressWhere.{IsProgressWhere, none_yet, one_more, none_more, ends_with, bounded, shown_as, never_bound}
use Rattle.mau_session.proofs.listing_where.show_solutions_where.Goals as goal

pub loop-init : goal.loop-init
loop-init g c =
    let m = c.args.module.now in
    let M = g.E.Evaluator.meanings c.args.evaluator.now in
    let first = query_of c.args.kept.now.query in
    record {
      progress = subst (λ n. IsProgressWhere m M c.args.kept.now.cond first c.args.out.now.items c.args.most first 0 n c.args.out.now.items) (sym c.requires.limit) (none_yet m M c.args.kept.now.cond first c.args.out.now.items c.args.most);
      ready = c.requires.ready;
      signature = c.requires.signature;
      asked = c.requires.asked;
      given = c.requires.given;
      contexts = c.requires.contexts;
      fits = c.requires.fits;
      meanings = refl;
      condition = refl;
      pattern = refl;
    }

pub show_next_where-requires-clause-can : goal.show_next_where-requires-clause-can
show_next_where-requires-clause-can g c =
    let s = c.args.module.now.signature in
    let i = c.loop.invariant in
    let M = g.E.Evaluator.meanings c.args.evaluator.now in
    subst (λ (n : Meanings). CanBeAsked s n (tree_of c.loop.kept.query.pattern) c.loop.kept.cond) (sym i.meanings)
    (subst (λ (p : Bare). CanBeAsked s M (tree_of p) c.loop.kept.cond) (sym i.pattern) (subst (λ (fs : List Fragment). CanBeAsked s M (tree_of c.args.kept.now.query.pattern) fs) (sym i.condition) c.requires.can))

pub loop-preserved : goal.loop-preserved
loop-preserved g c =
    let m = c.args.module.now in
    let M = g.E.Evaluator.meanings c.args.evaluator.now in
    let cond = c.args.kept.now.cond in
    let first = query_of c.args.kept.now.query in
    let old = c.args.out.now.items in
    let i = c.loop.invariant in
    let now = query_of c.loop.kept.query in
    let next = query_of c.show_next_where.new.kept.query in
    let n = c.loop.counter in
    let b = c.loop.budget in
    let left = c.show_next_where.new.budget in
    let out = c.loop.out.items in
    let new = c.show_next_where.new.out.items in
    let low = subst (λ k. n < k) c.unwrap_or-end.ensures c.loop-test.true in
    let shows = subst (λ (z : Bool). ShowsNextWhere m M cond now b out (Ok z) next new left) c.in-Ok-true.field-0-test (shown_as m M (g.E.Evaluator.meanings c.loop.evaluator) cond c.loop.kept.cond i.meanings i.condition now b out (Ok c.in-Ok-true.field-0) next new left c.in-Ok-true.ensures.shown) in
    record {
      progress = one_more m M cond first old c.args.most now n b out i.progress next (n + 1) left 18446744073709551615 new refl low shows;
      ready = c.in-Ok-true.ensures.ready;
      signature = c.in-Ok-true.ensures.signature;
      asked = c.in-Ok-true.ensures.asked;
      given = c.in-Ok-true.ensures.given c.in-Ok-true.field-0-test;
      contexts = i.contexts ∙ sym c.in-Ok-true.ensures.contexts;
      fits = c.in-Ok-true.ensures.fits;
      meanings = c.show_next_where.ensures.meanings ∙ i.meanings;
      condition = c.show_next_where.ensures.condition ∙ i.condition;
      pattern = c.in-Ok-true.ensures.pattern ∙ i.pattern;
    }

pub returns-in-Ok-false-clause-shown : goal.returns-in-Ok-false-clause-shown
returns-in-Ok-false-clause-shown g c =
    let m = c.args.module.now in
    let M = g.E.Evaluator.meanings c.args.evaluator.now in
    let cond = c.args.kept.now.cond in
    let first = query_of c.args.kept.now.query in
    let old = c.args.out.now.items in
    let i = c.loop.invariant in
    let now = query_of c.loop.kept.query in
    let next = query_of c.show_next_where.new.kept.query in
    let n = c.loop.counter in
    let b = c.loop.budget in
    let left = c.show_next_where.new.budget in
    let out = c.loop.out.items in
    let new = c.show_next_where.new.out.items in
    let low = subst (λ k. n < k) c.unwrap_or-end.ensures c.loop-test.true in
    let shows = subst (λ (z : Bool). ShowsNextWhere m M cond now b out (Ok z) next new left) c.in-Ok-false.field-0-test (shown_as m M (g.E.Evaluator.meanings c.loop.evaluator) cond c.loop.kept.cond i.meanings i.condition now b out (Ok c.in-Ok-false.field-0) next new left c.in-Ok-false.ensures.shown) in
    none_more m M cond first old c.args.most now n b out i.progress next left 18446744073709551615 new low shows

pub returns-in-Err-clause-shown : goal.returns-in-Err-clause-shown
returns-in-Err-clause-shown g c =
    let m = c.args.module.now in
    let M = g.E.Evaluator.meanings c.args.evaluator.now in
    let cond = c.args.kept.now.cond in
    let first = query_of c.args.kept.now.query in
    let old = c.args.out.now.items in
    let i = c.loop.invariant in
    let now = query_of c.loop.kept.query in
    let next = query_of c.show_next_where.new.kept.query in
    let n = c.loop.counter in
    let b = c.loop.budget in
    let left = c.show_next_where.new.budget in
    let out = c.loop.out.items in
    let new = c.show_next_where.new.out.items in
    let low = subst (λ k. n < k) c.unwrap_or-end.ensures c.loop-test.true in
    ends_with m M cond first old c.args.most now n b out i.progress next left 18446744073709551615 new c.in-Err.end c.by.result c.by.ensures low (shown_as m M (g.E.Evaluator.meanings c.loop.evaluator) cond c.loop.kept.cond i.meanings i.condition now b out (Err c.in-Err.end) next new left c.in-Err.ensures.shown)

pub returns-in-Err-clause-ready : goal.returns-in-Err-clause-ready
returns-in-Err-clause-ready g c = never_bound c.in-Err.end c.by.result c.by.ensures _

pub returns-in-Err-clause-pattern : goal.returns-in-Err-clause-pattern
returns-in-Err-clause-pattern g c = never_bound c.in-Err.end c.by.result c.by.ensures _

pub returns-in-Some-clause-shown : goal.returns-in-Some-clause-shown
returns-in-Some-clause-shown g c =
    let m = c.args.module.now in
    let M = g.E.Evaluator.meanings c.args.evaluator.now in
    let k = c.in-Some.field-0 in
    let end : c.unwrap_or-end.result ≡ k = c.unwrap_or-end.ensures ∙ ap (λ o. unwrap_or o 18446744073709551615) c.in-Some.is in
    bounded m M c.args.kept.now.cond (query_of c.args.kept.now.query) c.args.out.now.items c.args.most (query_of c.loop.kept.query) c.loop.counter c.loop.budget c.loop.out.items c.loop.invariant.progress k c.in-Some.is
    (omega (arith, end, c.loop-test.false, c.loop.auto.counter-end))
