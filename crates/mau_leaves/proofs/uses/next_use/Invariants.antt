use Rattle.std.proofs.Common.{◌≡◌}
use Rattle.mau_store.specs.Node.{Extends}
use Rattle.mau_sorts.specs.Table.{KeepsEntries}
use Rattle.mau_evaluation.specs.Engine.{engine_of}
use Rattle.mau_api.specs.Programs.{program_over}
use Rattle.mau_leaves.specs.Steps.{Passes, Throughout}
use Rattle.mau_leaves.specs.Searches.{left_in, IsSearch}
use Rattle.mau_leaves.proofs.uses.next_use.Given as goal

abbrev pub invariant-loop : goal.invariant-loop
invariant-loop g l =
    let m = g.E.Evaluator.meanings l.fn.evaluator in
    let p = l.fn.program in
    let old = left_in p m.hooks l.fn.rule l.fn.uses.whole l.fn.uses.bound.items l.fn.store (g.L.Lister.asked l.fn.uses.listing) (g.L.Lister.given l.fn.uses.listing) l.fn.uses.standing in
    let now = left_in p m.hooks l.fn.rule l.uses.whole l.uses.bound.items l.store (g.L.Lister.asked l.uses.listing) (g.L.Lister.given l.uses.listing) l.uses.standing in record {
      passed : Throughout (engine_of (program_over p m.hooks)) old (λ L. Passes (old L) (now L));
      search : IsSearch g.L.Lister.with_context p m l.fn.rule l.uses.bound.items l.store (g.E.Evaluator.table l.evaluator) (g.L.Lister.asked l.uses.listing) (g.L.Lister.given l.uses.listing) l.uses.standing;
      asked : g.L.Lister.asked l.uses.listing ≡ g.L.Lister.asked l.fn.uses.listing;
      bound : l.uses.bound ≡ l.fn.uses.bound;
      whole : l.uses.whole ≡ l.fn.uses.whole;
      signature : g.L.Lister.is_for l.uses.listing p.sig;
      meanings : g.E.Evaluator.meanings l.evaluator ≡ m;
      fits : g.E.Evaluator.fits l.evaluator l.store;
      extends : Extends l.fn.store l.store;
      kept : KeepsEntries (g.E.Evaluator.table l.fn.evaluator) (g.E.Evaluator.table l.evaluator);
    }
