use Rattle.std.proofs.Common.{◌≡◌}
use Rattle.std.specs.Option.{option_map}
use Rattle.mau_listing.specs.Asked.{question_in, matcher_in}
use Rattle.mau_conditional.specs.NextWhere.{IsReadyFor, HaveGrown}
use Rattle.mau_conditional.proofs.Turns.{Leads}
use Rattle.mau_conditional.proofs.next.next_where.Given as goal

abbrev pub invariant-loop : goal.invariant-loop
invariant-loop g l =
    let w = g.L.Lister.with_context in
    let a = g.L.Lister.asked l.fn.listing in
    let m = g.E.Evaluator.meanings l.fn.evaluator in record {
      asked : g.L.Lister.asked l.listing ≡ a;
      signature : g.L.Lister.is_for l.listing l.sig;
      ready : IsReadyFor w l.sig l.store (g.E.Evaluator.table l.evaluator) a (g.L.Lister.given l.listing);
      grown : HaveGrown l.fn.store l.store (g.E.Evaluator.table l.fn.evaluator) (g.E.Evaluator.table l.evaluator);
      fits : g.E.Evaluator.fits l.evaluator l.store;
      meanings : g.E.Evaluator.meanings l.evaluator ≡ m;
      leads : Leads w l.sig m l.cond (question_in l.fn.store a) (option_map (matcher_in l.fn.store) (g.L.Lister.given l.fn.listing)) l.fn.budget
          (option_map (matcher_in l.store) (g.L.Lister.given l.listing)) l.budget;
    }
