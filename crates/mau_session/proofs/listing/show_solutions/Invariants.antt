use Rattle.std.proofs.Common.{◌≡◌}
use Rattle.mau_session.specs.KeptQuery.{query_of, asked_for, IsReady}
use Rattle.mau_session.proofs.Progress.{IsProgress}
use Rattle.mau_session.proofs.listing.show_solutions.Given as goal

abbrev pub invariant-loop : goal.invariant-loop
invariant-loop g l =
    let m = g.E.Evaluator.meanings l.fn.evaluator in record {
      progress : IsProgress l.module m (query_of l.fn.query) (query_of l.query) l.counter l.fn.out.items l.out.items;
      ready : IsReady l.module.signature (g.E.Evaluator.table l.evaluator) l.query;
      fits : g.E.Evaluator.fits l.evaluator l.query.store;
      meanings : g.E.Evaluator.meanings l.evaluator ≡ m;
      contexts : g.L.Lister.with_context ≡ l.query.with_context;
      signature : g.L.Lister.is_for l.listing l.module.signature;
      asked : g.L.Lister.asked l.listing ≡ asked_for l.query;
      given : g.L.Lister.given l.listing ≡ l.query.last;
    }
