use Rattle.std.proofs.Common.{◌≡◌, map, length, All}
use Rattle.std.specs.Option.{option_map}
use Rattle.mau_signature.specs.Signature.{theory_at}
use Rattle.mau_store.specs.Node.{Extends}
use Rattle.mau_sorts.specs.HasSort.{Known}
use Rattle.mau_sorts.specs.Table.{KeepsEntries}
use Rattle.mau_listing.specs.Question.{IsSolution}
use Rattle.mau_listing.specs.Next.{matcher_cmp, AreNext, last_of}
use Rattle.mau_listing.specs.Asked.{question_in, matcher_in, IsTableOf, BySort, CanGoOn}
use Rattle.mau_listing.proofs.Growth.{AreOfStore}
use Rattle.mau_api.proofs.first.first_derived.Given as goal

abbrev pub invariant-loop : goal.invariant-loop
invariant-loop g l =
    let m = g.E.Evaluator.meanings l.fn.evaluator in
    let began = g.E.Evaluator.table l.fn.evaluator in
    let now = g.E.Evaluator.table l.evaluator in record {
      asked : g.L.Lister.asked l.listing ≡ g.L.Lister.asked l.fn.listing;
      meanings : g.E.Evaluator.meanings l.evaluator ≡ m;
      fits : g.E.Evaluator.fits l.evaluator l.store;
      signature : g.L.Lister.is_for l.listing m.program.sig;
      ready : CanGoOn g.L.Lister.with_context m.program.sig l.store now (g.L.Lister.asked l.fn.listing) (g.L.Lister.given l.listing);
      extends : Extends l.fn.store l.store;
      kept : KeepsEntries began now;
      within : All (AreOfStore l.store) l.solutions.items;
      counted : length l.solutions.items ≡ l.counter;
      table : (known : Known) → IsTableOf m.program.sig known l.fn.store began → IsTableOf m.program.sig known l.store now;
      last :
          option_map (matcher_in l.store) (g.L.Lister.given l.listing)
          ≡ last_of (option_map (matcher_in l.fn.store) (g.L.Lister.given l.fn.listing)) (map (matcher_in l.store) l.solutions.items);
      next : (known : Known) → IsTableOf m.program.sig known l.fn.store began →
          AreNext (IsSolution g.L.Lister.with_context m.program.sig (BySort m.program.sig known) (question_in l.fn.store (g.L.Lister.asked l.fn.listing)))
          (matcher_cmp (theory_at m.program.sig) (g.L.Lister.asked l.fn.listing).pattern)
          (option_map (matcher_in l.fn.store) (g.L.Lister.given l.fn.listing)) (map (matcher_in l.store) l.solutions.items);
    }
