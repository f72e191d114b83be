-- The sort that is shown for a term, by what is kept of its sorts; and that it is one.
use Rattle.std.proofs.Common.{◌≡◌, ◌<◌, ◌≤◌, ℕ, zero, suc, List, [], ◌∷◌, Option, Some, None, is_some, length, inr, ⊎_elim, refl, sym, ap, subst, arith, true, false}
use Rattle.std.specs.Option.{option_map}
use Rattle.std.specs.Prelude.{Contains, slice_index_or}
use Rattle.std.specs.List.Sorted.{IsStrictlyIncreasing}
use Rattle.std.proofs.lemmas.List.Kept.{AllPairs-from_increasing}
use Rattle.mau_poset.specs.Order.{Hierarchy, IsPoset}
use Rattle.mau_poset.proofs.Orders.{antisymmetric}
use Rattle.mau_terms.specs.Tree.{Tree}
use Rattle.mau_store.specs.Node.{Node, IsOf, AreNodes}
use Rattle.mau_store.specs.Trees.{tree_at}
use Rattle.mau_store.proofs.Numbers.{one_number}
use Rattle.mau_sorts.specs.Table.{Table, entry_at, IsSettled}
use Rattle.mau_listing.specs.Asked.{IsTreeSettled}
use Rattle.mau_sorts.specs.SortSets.{SortsOf, IsKeptOf, shown_sort, first_or_kind}
use Rattle.mau_sorts.proofs.Kept.{kept_minimal}
use Rattle.mau_evaluation.specs.Evaluation.{has_number}
use Rattle.mau_evaluation.proofs.Stay.{stays_one}
use Rattle.mau_api.specs.Meanings.{Meanings, AreMeanings}
use Rattle.mau_api.specs.Terms.{IsTerm, IsNormalBare}
use Rattle.mau_api.specs.Answers.{IsDerivedTable}
use Rattle.mau_results.specs.Results.{IsShownSort, shows_sort, shows_kind, HasShownSort}
use Rattle.mau_results.specs.Laws.{LeastSortsAreShown}

-- the first of numbers that rise is the lowest
head_lowest : (m : ℕ) (ms : List ℕ) → IsStrictlyIncreasing (m ∷ ms) → (q : ℕ) → Contains (m ∷ ms) q → m ≤ q
head_lowest m ms up q (zero, there, is) = let same : m ≡ q = is in omega arith
head_lowest m ms up q (suc k, there, is) =
    let low : m < slice_index_or (m ∷ ms) (suc k) q = AllPairs-from_increasing (m ∷ ms) up 0 (suc k) q (omega arith) there in
    let same : slice_index_or (m ∷ ms) (suc k) q ≡ q = is in omega arith

-- what is kept tells the sort that is shown
pub shown_kept : (h : Hierarchy) → IsPoset h → (P : ℕ → Type 0) (e : SortsOf) → IsKeptOf h P e → IsShownSort h P (shown_sort e)
shown_kept h poset P e kept = by e.minimal refl
  where
    by : (ms : List ℕ) → e.minimal ≡ ms → IsShownSort h P (first_or_kind e.minimal e.kind)
    by [] none =
        subst (λ xs. IsShownSort h P (first_or_kind xs e.kind)) (sym none)
        (shows_kind (record {
          kind = kept.kind.0;
          holds = (kept.exact e.kind).0 (inr refl);
          alone = λ q holds. ⊎_elim
              (λ (n, among, low). absurd (let below : among.0 < 0 = subst (λ xs. among.0 < length xs) none among.1 in omega arith))
              (λ (k : e.kind ≡ q). sym k)
              ((kept.exact q).1 holds);
        }))
    by (m ∷ ms) some =
        let first : Contains (m ∷ ms) m = (0, omega arith, refl) in
        subst (λ xs. IsShownSort h P (first_or_kind xs e.kind)) (sym some)
        (shows_sort (record {
          minimal = (kept_minimal h poset P e kept m).0 (subst (λ xs. Contains xs m) (sym some) first);
          first = λ q minimal.
              head_lowest m ms (subst IsStrictlyIncreasing some kept.ascending) q (subst (λ xs. Contains xs q) some ((kept_minimal h poset P e kept q).1 minimal));
        }))

-- one sort is shown
pub shown_once : (h : Hierarchy) (P : ℕ → Type 0) (s q : ℕ) → IsShownSort h P s → IsShownSort h P q → s ≡ q
shown_once h P s q (shows_sort a) (shows_sort b) = omega (arith, a.first q b.minimal, b.first s a.minimal)
shown_once h P s q (shows_sort a) (shows_kind b) = absurd (omega (arith, b.alone s a.minimal.holds, a.minimal.sort, b.kind))
shown_once h P s q (shows_kind a) (shows_sort b) = absurd (omega (arith, a.alone q b.minimal.holds, b.minimal.sort, a.kind))
shown_once h P s q (shows_kind a) (shows_kind b) = b.alone s a.holds

-- that of a value too
pub shown_sort_once : (m : Meanings) → AreMeanings m → (v : Tree) (s q : ℕ) → HasShownSort m v s → HasShownSort m v q → s ≡ q
shown_sort_once m laws v s q a b =
    let h = m.program.sig.hierarchy in
    let same = (stays_one (λ k B. m.sorting k B v) (laws.sorting v).stays a.sorts b.sorts 0 0 a.known b.known).0 in
    shown_once h (λ r. has_number a.sorts r ≡ true) s q a.shown (subst (λ ss. IsShownSort h (λ r. has_number ss r ≡ true) q) (sym same) b.shown)

pub least_sorts_are_shown : LeastSortsAreShown
least_sorts_are_shown h poset sorts s sort least =
    shows_sort (record {
      minimal = record { sort = sort; holds = least.holds; lowest = λ q holds low. antisymmetric h poset q s low (least.least q holds) };
      first = λ q minimal. let same = minimal.lowest s least.holds (least.least q minimal.holds) in omega (arith, same);
    })

-- ---- terms whose sorts are settled

module _ (m : Meanings) (nodes : List Node) (table : Table) (i : ℕ) where
  -- the sort of the entry is shown
  by_entry : IsPoset m.program.sig.hierarchy → IsDerivedTable m nodes table → IsNormalBare m.program.sig (tree_at nodes i) →
      (o : Option SortsOf) → entry_at table i ≡ o → (s : ℕ) → Some s ≡ option_map shown_sort o → HasShownSort m (tree_at nodes i) s
  by_entry poset derived normal None at s e = absurd cc
  by_entry poset derived normal (Some x) at s e =
      let entry = derived.entries i x at normal in
      let kept = (derived.declared.entries i x at).1 in
      let same : s ≡ shown_sort x = cc in
      record {
        sorts = entry.sorts;
        known = record { level = entry.levels; each = m.limit; budget = 0; left = 0; comes = entry.known 0 };
        shown = subst (IsShownSort m.program.sig.hierarchy (λ r. has_number entry.sorts r ≡ true)) (sym same)
            (shown_kept m.program.sig.hierarchy poset (λ r. has_number entry.sorts r ≡ true) x
            (record { exact = entry.exact; sorts = kept.sorts; kind = kept.kind; apart = kept.apart; ascending = kept.ascending }));
      }

  pub shown_settled : IsPoset m.program.sig.hierarchy → IsDerivedTable m nodes table → IsTerm m.program.sig nodes i →
      (s : ℕ) → Some s ≡ option_map shown_sort (entry_at table i) → HasShownSort m (tree_at nodes i) s
  shown_settled poset derived term s e = by_entry poset derived (term.within.normal, term.bare) (entry_at table i) refl s e

-- where a term of a store is settled, its entry is there
pub entry_there : (nodes : List Node) (table : Table) (i : ℕ) → AreNodes nodes → IsOf nodes i → IsTreeSettled nodes table (tree_at nodes i) → None ≡ option_map shown_sort (entry_at table i) → ⊥
entry_there nodes table i are there settled e = none (entry_at table i) refl e
  where
    same : settled.number ≡ i
    same = one_number nodes are settled.number i settled.there there settled.tree

    none : (o : Option SortsOf) → entry_at table i ≡ o → None ≡ option_map shown_sort o → ⊥
    none None at e = let yes : is_some (entry_at table i) ≡ true = subst (IsSettled table) same settled.settled in let no : is_some (entry_at table i) ≡ false = ap is_some at in cc
    none (Some x) at e = cc
