use Rattle.std.proofs.Common.{◌≡◌, ◌<◌, ◌+◌, false, refl, sym, ap, ◌∙◌, subst, arith}
use Rattle.std.specs.Prelude.{unwrap_or}
use Rattle.mau_api.specs.Meanings.{Meanings}
use Rattle.mau_session.specs.KeptQuery.{query_of, GoesIn}
use Rattle.mau_session.specs.Next.{ShowsNext, GainsMatchers}
use Rattle.mau_session.proofs.Progress.{no_progress, more_progress, ended_progress, bounded_progress}
use Rattle.mau_session.proofs.listing.show_solutions.Goals as goal

pub loop-init : goal.loop-init
loop-init g c = record {
  progress = no_progress c.args.module.now (g.E.Evaluator.meanings c.args.evaluator.now) (query_of c.args.query.now) c.args.out.now.items;
  ready = c.requires.ready;
  fits = c.requires.fits;
  meanings = refl;
  contexts = c.requires.contexts;
  signature = c.requires.signature;
  asked = c.requires.asked;
  given = c.requires.given;
}

pub returns-then-not-branch-clause-shown : goal.returns-then-not-branch-clause-shown
returns-then-not-branch-clause-shown g c =
    let m = c.args.module.now in
    let M = g.E.Evaluator.meanings c.args.evaluator.now in
    ended_progress m M (query_of c.args.query.now) c.args.out.now.items c.args.most 18446744073709551615 (query_of c.loop.query) (query_of c.show_next.new.query) c.loop.counter c.loop.out.items c.show_next.new.out.items
    (subst (λ n. c.loop.counter < n) c.unwrap_or-end.ensures c.loop-test.true) c.loop.invariant.progress
    (subst (ShowsNext m M (query_of c.loop.query) c.loop.out.items (query_of c.show_next.new.query) c.show_next.new.out.items) c.if-not-branch.true (subst (λ (n : Meanings). ShowsNext m n (query_of c.loop.query) c.loop.out.items (query_of c.show_next.new.query) c.show_next.new.out.items c.in_ok-show_next.field-0) c.loop.invariant.meanings c.in_ok-show_next.ensures.shown))

pub loop-preserved : goal.loop-preserved
loop-preserved g c =
    let m = c.args.module.now in
    let M = g.E.Evaluator.meanings c.args.evaluator.now in
    let i = c.loop.invariant in
    record {
      progress = more_progress m M (query_of c.args.query.now) c.args.out.now.items (query_of c.loop.query) (query_of c.show_next.new.query) c.loop.counter (c.loop.counter + 1) c.loop.out.items c.show_next.new.out.items refl
          c.loop.invariant.progress
          (subst (ShowsNext m M (query_of c.loop.query) c.loop.out.items (query_of c.show_next.new.query) c.show_next.new.out.items) c.if-not-branch.false (subst (λ (n : Meanings). ShowsNext m n (query_of c.loop.query) c.loop.out.items (query_of c.show_next.new.query) c.show_next.new.out.items c.in_ok-show_next.field-0) c.loop.invariant.meanings c.in_ok-show_next.ensures.shown));
      ready = c.in_ok-show_next.ensures.ready;
      fits = c.in_ok-show_next.ensures.fits;
      meanings = c.show_next.ensures.meanings ∙ i.meanings;
      contexts = i.contexts ∙ sym c.in_ok-show_next.ensures.contexts;
      signature = c.in_ok-show_next.ensures.signature;
      asked = c.in_ok-show_next.ensures.asked;
      given = c.in_ok-show_next.ensures.given;
    }

pub returns-in-Some-clause-shown : goal.returns-in-Some-clause-shown
returns-in-Some-clause-shown g c =
    let m = c.args.module.now in
    let M = g.E.Evaluator.meanings c.args.evaluator.now in
    let k = c.in-Some.field-0 in
    let end : c.unwrap_or-end.result ≡ k = c.unwrap_or-end.ensures ∙ ap (λ o. unwrap_or o 18446744073709551615) c.in-Some.is in
    subst (λ o. GainsMatchers m M (query_of c.args.query.now) (query_of c.loop.query) o c.args.out.now.items c.loop.out.items false) (sym c.in-Some.is)
    (bounded_progress m M (query_of c.args.query.now) c.args.out.now.items k c.loop.counter (query_of c.loop.query) c.loop.out.items (omega (arith, end, c.loop-test.false, c.loop.auto.counter-end)) c.loop.invariant.progress)

pub show_next-requires-clause-goes : goal.show_next-requires-clause-goes
show_next-requires-clause-goes g c = subst (λ (n : Meanings). GoesIn c.args.module.now n) (sym c.loop.invariant.meanings) c.requires.goes
