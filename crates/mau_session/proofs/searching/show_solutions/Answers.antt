use Rattle.std.proofs.Common.{◌≡◌, ◌<◌, ◌+◌, Option, None, Some, refl, sym, ap, ◌∙◌, subst, arith}
use Rattle.std.specs.Prelude.{unwrap_or}
use Rattle.mau_stratitems.specs.Kept.{reached_by}
use Rattle.mau_session.specs.KeptStrategy.{ending_of, run_of, ShowsNextSolution}
use Rattle.mau_session.specs.declared.searching.SearchEnd.{SearchEnd}
use Rattle.mau_session.proofs.ProgressSolutions.{none_listed, one_shown, ended_so, enough_listed}
use Rattle.mau_session.proofs.searching.show_solutions.Goals as goal

pub loop-init : goal.loop-init
loop-init g c =
    let m = c.args.module.now in
    let M = g.E.Evaluator.meanings c.args.search.evaluator in
    record {
      progress = none_listed m M (run_of c.args.search.run c.args.search.shown c.args.vars.now) c.args.out.now.items c.args.most;
      shown = omega arith;
      run = c.requires.run;
      fits = c.requires.fits;
      meanings = refl;
    }

pub returns-in-Some-most-clause-shown : goal.returns-in-Some-most-clause-shown
returns-in-Some-most-clause-shown g c =
    let m = c.args.module.now in
    let M = g.E.Evaluator.meanings c.args.search.evaluator in
    let r = run_of c.args.search.run c.args.search.shown c.args.vars.now in
    let k = c.in-Some-most.field-0 in
    let end : c.unwrap_or-end.result ≡ k = c.unwrap_or-end.ensures ∙ ap (λ o. unwrap_or o 18446744073709551615) c.in-Some-most.is in
    enough_listed m M r c.args.out.now.items c.args.most (reached_by c.loop.search.run) c.loop.counter c.loop.out.items c.loop.invariant.progress k c.loop.search.shown c.in-Some-most.is
    (omega (arith, end, c.loop-test.false, c.loop.auto.counter-end)) c.loop.invariant.shown

pub returns-in-Some-clause-shown : goal.returns-in-Some-clause-shown
returns-in-Some-clause-shown g c =
    let m = c.args.module.now in
    let M = g.E.Evaluator.meanings c.args.search.evaluator in
    let d = g.E.Evaluator.meanings c.loop.search.evaluator in
    let r = run_of c.args.search.run c.args.search.shown c.args.vars.now in
    let i = c.loop.invariant in
    let n = c.loop.counter in
    let before = c.loop.search.shown in
    let after = c.in_ok-next.next.shown in
    let now = reached_by c.loop.search.run in
    let last = reached_by c.in_ok-next.next.run in
    let out = c.loop.out.items in
    let new = c.show_next.new.out.items in
    let low = subst (λ k. n < k) c.unwrap_or-end.ensures c.loop-test.true in
    ended_so m M r c.args.out.now.items c.args.most now n out i.progress d i.meanings last 18446744073709551615 before after new (ending_of c.in-Some.end) low i.shown
    (subst (ShowsNextSolution m d c.args.vars.now before now last out new after) c.in-Some.is c.in_ok-next.ensures.shown)

pub loop-preserved : goal.loop-preserved
loop-preserved g c =
    let m = c.args.module.now in
    let M = g.E.Evaluator.meanings c.args.search.evaluator in
    let d = g.E.Evaluator.meanings c.loop.search.evaluator in
    let r = run_of c.args.search.run c.args.search.shown c.args.vars.now in
    let i = c.loop.invariant in
    let n = c.loop.counter in
    let before = c.loop.search.shown in
    let after = c.in_ok-next.next.shown in
    let now = reached_by c.loop.search.run in
    let last = reached_by c.in_ok-next.next.run in
    let out = c.loop.out.items in
    let new = c.show_next.new.out.items in
    let low = subst (λ k. n < k) c.unwrap_or-end.ensures c.loop-test.true in
    let one = subst (ShowsNextSolution m d c.args.vars.now before now last out new after) c.in-None.is c.in_ok-next.ensures.shown in
    record {
      progress = one_shown m M r c.args.out.now.items c.args.most now n out i.progress d i.meanings last 18446744073709551615 before after new low i.shown one;
      shown = omega (arith, one.count, i.shown);
      run = c.in_ok-next.ensures.run;
      fits = c.in_ok-next.ensures.fits;
      meanings = c.in_ok-next.ensures.meanings ∙ i.meanings;
    }
