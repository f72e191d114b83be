-- Tables of sorts in a store and a table that grow.
use Rattle.std.proofs.Common.{ℕ, List, ◌∙◌, sym, subst}
use Rattle.mau_terms.specs.Tree.{Tree}
use Rattle.mau_terms.specs.Bare.{IsBare, IsLawful}
use Rattle.mau_terms.specs.Reading.{reading}
use Rattle.mau_signature.specs.Signature.{SignatureOf, theory_at, terms_over}
use Rattle.mau_signature.specs.OverSignature.{IsTreeOver}
use Rattle.mau_signature.proofs.OverSignature.{norm_over}
use Rattle.mau_store.specs.Node.{Node, Extends}
use Rattle.mau_store.specs.Trees.{tree_at}
use Rattle.mau_store.proofs.Growth.{extension_keeps_terms}
use Rattle.mau_sorts.specs.SortSets.{IsKeptOf}
use Rattle.mau_sorts.specs.HasSort.{Known, HasSort}
use Rattle.mau_sorts.specs.Table.{Table, AreOver, KeepsEntries}
use Rattle.mau_sorts.proofs.Settling.{kept_same}
use Rattle.mau_listing.specs.Asked.{IsTreeSettled, IsTableOf, IsClosedTable}
use Rattle.mau_listing.proofs.Closed.{closed_stay}
use Rattle.mau_listing.proofs.Growth.{settled_kept}
use Rattle.mau_api.specs.Terms.{IsTerm, IsNormalBare}
use Rattle.mau_api.specs.Meanings.{Meanings}
use Rattle.mau_api.specs.Answers.{IsEntryOf, IsDerivedTable, AreSettled}
use Rattle.mau_reduce.specs.Tables.{IsSortTable}

-- a term is one over the signature
pub term_over : (s : SignatureOf) → IsLawful (terms_over s) → (nodes : List Node) (i : ℕ) → IsTerm s nodes i → IsTreeOver s (tree_at nodes i)
term_over s lawful nodes i term =
    subst (IsTreeOver s) term.within.normal (norm_over s lawful (tree_at nodes i) (subst (λ t. IsBare (terms_over s) (reading (theory_at s) t)) (sym term.within.normal) term.bare))

-- ---- in a store and a table that grow

pub tree_settled_grown : (old new : List Node) (before after : Table) (t : Tree) → Extends old new → KeepsEntries before after → IsTreeSettled old before t → IsTreeSettled new after t
tree_settled_grown old new before after t x kept h =
    let k = extension_keeps_terms old new x h.number h.there in
    record { number = h.number; there = k.number; tree = k.tree ∙ h.tree; settled = settled_kept before after kept h.number h.settled }

pub settled_grown : (s : SignatureOf) (old new : List Node) (before after : Table) (t : Tree) → Extends old new → KeepsEntries before after → AreSettled s old before t → AreSettled s new after t
settled_grown s old new before after t x kept h = record {
  identities = λ f i e. tree_settled_grown old new before after _ x kept (h.identities f i e);
  below = λ u b. tree_settled_grown old new before after u x kept (h.below u b);
  itself = tree_settled_grown old new before after t x kept h.itself;
}

-- an evaluator's table, where the store alone has grown
pub derived_extended : (m : Meanings) (old new : List Node) (table : Table) → Extends old new → IsDerivedTable m old table → IsDerivedTable m new table
unfolding tree_settled_grown
derived_extended m old new table x h = record {
  entries = λ i e at normal.
      let same = (extension_keeps_terms old new x i (h.declared.entries i e at).0).tree in
      subst (λ t. IsEntryOf m t e) (sym same) (h.entries i e at (subst (IsNormalBare m.program.sig) same normal));
  known = h.known;
  declared = record {
    entries = λ i e at.
        let p = h.declared.entries i e at in
        let k = extension_keeps_terms old new x i p.0 in
        (k.number, subst (λ t. IsKeptOf m.program.sig.hierarchy (HasSort m.program.sig h.known t) e) (sym k.tree) p.1);
    settled = λ t r c. tree_settled_grown old new table table t x (kept_same table) (h.declared.settled t r c);
    further = λ t r c. h.declared.further t r c;
  };
  over = h.over;
  closed = closed_stay old new table x h.closed;
}

-- behind what a listing settled
pub table_after : (s : SignatureOf) (old new : List Node) (before after : Table) → IsSortTable s old before → AreOver s.hierarchy after →
    ((known : Known) → IsTableOf s known old before → IsTableOf s known new after) → (IsClosedTable old before → IsClosedTable new after) → IsSortTable s new after
table_after s old new before after h over table closed =
    record { known = h.known; declared = table h.known h.declared; kinds = h.kinds; over = over; closed = closed h.closed }
