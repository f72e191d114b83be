use Rattle.std.proofs.Common.{◌≡◌, map, length, All}
use Rattle.std.specs.Option.{option_map}
use Rattle.mau_signature.specs.Signature.{theory_at}
use Rattle.mau_store.specs.Node.{Extends}
use Rattle.mau_sorts.specs.HasSort.{Known}
use Rattle.mau_sorts.specs.Table.{KeepsEntries}
use Rattle.mau_listing.specs.Question.{IsSolution}
use Rattle.mau_listing.specs.Next.{matcher_cmp, AreNext, last_of}
use Rattle.mau_listing.specs.Asked.{question_in, matcher_in, IsTableOf, BySort, CanGoOn}
use Rattle.mau_listing.proofs.Growth.{AreOfStore}
use Rattle.mau_listing.proofs.first.first_solutions.Given as goal

abbrev pub invariant-loop : goal.invariant-loop
invariant-loop g l = record {
  asked : g.L.Lister.asked l.listing ≡ g.L.Lister.asked l.fn.listing;
  signature : g.L.Lister.is_for l.listing l.sig;
  ready : CanGoOn g.L.Lister.with_context l.sig l.store l.sorts (g.L.Lister.asked l.fn.listing) (g.L.Lister.given l.listing);
  extends : Extends l.fn.store l.store;
  kept : KeepsEntries l.fn.sorts l.sorts;
  within : All (AreOfStore l.store) l.solutions.items;
  counted : length l.solutions.items ≡ l.counter;
  table : (known : Known) → IsTableOf l.sig known l.fn.store l.fn.sorts → IsTableOf l.sig known l.store l.sorts;
  last :
      option_map (matcher_in l.store) (g.L.Lister.given l.listing)
      ≡ last_of (option_map (matcher_in l.fn.store) (g.L.Lister.given l.fn.listing)) (map (matcher_in l.store) l.solutions.items);
  next : (known : Known) → IsTableOf l.sig known l.fn.store l.fn.sorts →
      AreNext (IsSolution g.L.Lister.with_context l.sig (BySort l.sig known) (question_in l.fn.store (g.L.Lister.asked l.fn.listing)))
      (matcher_cmp (theory_at l.sig) (g.L.Lister.asked l.fn.listing).pattern)
      (option_map (matcher_in l.fn.store) (g.L.Lister.given l.fn.listing)) (map (matcher_in l.store) l.solutions.items);
}
