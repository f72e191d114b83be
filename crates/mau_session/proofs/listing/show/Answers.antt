use Rattle.mau_session.specs.KeptQuery.{query_of}
use Rattle.mau_session.proofs.Progress.{with_last_line}
use Rattle.mau_session.proofs.listing.show.Goals as goal

pub returns-clause-shown : goal.returns-clause-shown
returns-clause-shown g c =
    with_last_line c.args.module.now (g.E.Evaluator.meanings c.args.evaluator.now) (query_of c.args.query.now) c.args.out.now.items (query_of c.show_solutions.new.query) c.args.most c.show_solutions.new.out.items c.write_end.new.out.items c.in_ok-has_ended.has_ended
    c.in_ok-has_ended.ensures.shown c.in_ok-write_end.ensures
