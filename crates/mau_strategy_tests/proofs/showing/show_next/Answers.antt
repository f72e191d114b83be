use Rattle.std.proofs.Common.{sym, subst}
use Rattle.mau_store.specs.Node.{IsOf}
use Rattle.mau_stratitems.specs.declared.kept.RestingRun.{RestingRun}
use Rattle.mau_stratitems.specs.Kept.{reached_by}
use Rattle.mau_stratitems.specs.Shown.{ComesTo}
use Rattle.mau_stratitems.specs.declared.next.NextShown.{NextShown}
use Rattle.mau_strategy_tests.proofs.showing.show_next.Goals as goal

pub push_solution-requires : goal.push_solution-requires
push_solution-requires g c =
    let came = c.in_ok-came.came in
    let m = g.E.Evaluator.meanings c.args.search.evaluator in
    subst (λ (r : RestingRun g.row.L.Denot). IsOf r.store c.in-Solution.term.0) (sym c.deref.ensures)
    (subst (λ (n : NextShown). ComesTo c.args.shower.now.program.now m (reached_by c.args.search.run) (reached_by came.run) came.run.rest.value.store n) c.in-Solution.is c.in_ok-came.ensures.came).term.within.there
