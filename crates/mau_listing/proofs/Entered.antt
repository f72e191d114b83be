-- One more entry of a table.
use Rattle.std.proofs.Common.{◌≡◌, ◌≢◌, ℕ, List, [], Contains, is_some, ⊎_elim, inl, inr, ap, sym, ◌∙◌, subst, arith}
use Rattle.std.proofs.lemmas.Bool.{cases_eq}
use Rattle.mau_signature.specs.Signature.{SignatureOf, theory_at}
use Rattle.mau_store.specs.Node.{Node, AreNodes, IsOf}
use Rattle.mau_store.specs.Trees.{tree_at}
use Rattle.mau_store.proofs.Numbers.{one_number}
use Rattle.mau_sorts.specs.HasSort.{Known}
use Rattle.mau_sorts.specs.Table.{Table, entry_at, IsSettled, IsKnownOf, AreEntries, KeepsEntries}
use Rattle.mau_listing.specs.Asked.{IsTreeSettled, IsTableOf, IsNumeralOrList, MaySettle}
use Rattle.mau_listing.proofs.Growth.{settled_kept}

module _ (nodes : List Node) (are : AreNodes nodes) where
  -- the number of a settled tree is settled
  pub number_settled : (table : Table) (i : ℕ) → IsOf nodes i → IsTreeSettled nodes table (tree_at nodes i) → IsSettled table i
  number_settled table i there is = subst (IsSettled table) (one_number nodes are is.number i is.there there is.tree) is.settled

  -- nothing is known of a term that is not settled
  nothing_known : (s : SignatureOf) (known : Known) (table : Table) (i : ℕ) → IsOf nodes i → ¬ IsSettled table i → IsTableOf s known nodes table → IsKnownOf known (tree_at nodes i) []
  nothing_known s known table i there unsettled t = λ r. (
    λ among. absurd (unsettled (number_settled table i there (t.settled (tree_at nodes i) r among))),
    λ among. let below = among.1 in absurd (omega arith),
  )

  pub table_more : (s : SignatureOf) (known : Known) (old new : Table) (i : ℕ) → IsOf nodes i → ¬ IsSettled old i → KeepsEntries old new → ((j : ℕ) → Contains old.further j → Contains new.further j)
      → (AreEntries s known nodes old → IsKnownOf known (tree_at nodes i) [] → AreEntries s known nodes new) → IsTableOf s known nodes old → IsTableOf s known nodes new
  table_more s known old new i there unsettled kept further entries t = record {
    entries = entries t.entries (nothing_known s known old i there unsettled t);
    settled = λ u r among.
        let is = t.settled u r among in
        record { number = is.number; there = is.there; tree = is.tree; settled = settled_kept old new kept is.number is.settled };
    further = λ u r among. further (t.settled u r among).number (t.further u r among);
  }

  -- only the term itself is settled
  pub settles_one : (s : SignatureOf) (old new : Table) (subject i : ℕ) → IsOf nodes subject → IsOf nodes i → ((j : ℕ) → j ≢ i → entry_at new j ≡ entry_at old j) → (i ≡ subject → ⊥) → IsNumeralOrList (theory_at s) (tree_at nodes i)
      → (j : ℕ) → IsSettled new j → MaySettle s nodes old (tree_at nodes subject) j
  settles_one s old new subject i asked there others other list j is =
      ⊎_elim
      (λ (e : j ≡ i). subst (MaySettle s nodes old (tree_at nodes subject)) (sym e) (inr (there, list, λ same. other (one_number nodes are i subject there asked same))))
      (λ (ne : j ≢ i). inl (ap is_some (sym (others j ne)) ∙ is))
      (cases_eq j i)
