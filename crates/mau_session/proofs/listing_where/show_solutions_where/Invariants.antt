use Rattle.std.proofs.Common.{◌≡◌}
use Rattle.mau_session.specs.KeptQuery.{query_of, asked_for, IsReady}
use Rattle.mau_session.proofs.ProgressWhere.{IsProgressWhere}
use Rattle.mau_session.proofs.listing_where.show_solutions_where.Given as goal

abbrev pub invariant-loop : goal.invariant-loop
invariant-loop g l =
    let m = g.E.Evaluator.meanings l.fn.evaluator in record {
      progress : IsProgressWhere l.module m l.fn.kept.cond (query_of l.fn.kept.query) l.fn.out.items l.most (query_of l.kept.query) l.counter l.budget l.out.items;
      ready : IsReady l.module.signature (g.E.Evaluator.table l.evaluator) l.kept.query;
      signature : g.L.Lister.is_for l.listing l.module.signature;
      asked : g.L.Lister.asked l.listing ≡ asked_for l.kept.query;
      given : g.L.Lister.given l.listing ≡ l.kept.query.last;
      contexts : g.L.Lister.with_context ≡ l.kept.query.with_context;
      fits : g.E.Evaluator.fits l.evaluator l.kept.query.store;
      meanings : g.E.Evaluator.meanings l.evaluator ≡ m;
      condition : l.kept.cond ≡ l.fn.kept.cond;
      pattern : l.kept.query.pattern ≡ l.fn.kept.query.pattern;
    }
