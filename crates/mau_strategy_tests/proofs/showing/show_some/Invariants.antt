use Rattle.std.proofs.Common.{◌≡◌}
use Rattle.mau_stratitems.specs.Kept.{CanRun}
use Rattle.mau_strategy_tests.proofs.showing.show_some.Given as goal

abbrev pub invariant-loop : goal.invariant-loop
invariant-loop g l = record {
  run : CanRun g.L.Lister.asked g.L.Lister.given g.L.Lister.is_for g.L.Lister.with_context l.shower.program.now (g.E.Evaluator.meanings l.search.evaluator)
      (g.E.Evaluator.table l.search.evaluator) l.search.run;
  fits : g.E.Evaluator.fits l.search.evaluator l.search.run.rest.value.store;
  meanings : g.E.Evaluator.meanings l.search.evaluator ≡ g.E.Evaluator.meanings l.fn.search.evaluator;
}
