use Rattle.mau_stratitems.specs.Kept.{reached_by}
use Rattle.mau_session.specs.KeptStrategy.{ending_of, run_of}
use Rattle.mau_session.proofs.ProgressSolutions.{with_end}
use Rattle.mau_session.proofs.searching.list_solutions.Goals as goal

pub returns-clause-ended : goal.returns-clause-ended
returns-clause-ended g c =
    with_end c.args.module.now (g.E.Evaluator.meanings c.args.search.evaluator) (run_of c.args.search.run c.args.search.shown c.args.vars.now) c.args.out.now.items c.args.most
    c.args.limit c.requires.limit c.show_solutions.new.out.items c.write_search_end.new.out.items (reached_by c.in_ok-search.search.run) c.in_ok-search.search.shown (ending_of c.in_ok-search.end)
    c.in_ok-search.ensures.shown c.in_ok-write_search_end.ensures
