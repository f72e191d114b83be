-- Tables of the sorts of a store's terms.
use Rattle.std.specs.Prelude.{◌≡◌, ◌≢◌, ◌↔◌, ◌≤◌, ℕ, List, [], ◌∷◌, ◌++◌, All, AllPairs, Contains, true, length, Option, Some, None, is_some, slice_get, slice_index_or}
use Rattle.mau_terms.specs.Tree.{Tree}
use Rattle.mau_poset.specs.Order.{Hierarchy}
use Rattle.mau_signature.specs.Faults.{IsSort}
use Rattle.mau_signature.specs.Signature.{SignatureOf, IsOperator, theory_at}
use Rattle.mau_signature.specs.OverSignature.{IsTreeOver}
use Rattle.mau_store.specs.Node.{Node, numeral_node, variable_node, operator_node, arguments, IsOf}
use Rattle.mau_store.specs.Trees.{tree_at}
use Rattle.mau_sorts.specs.SortSets.{SortsOf, IsOver, IsKeptOf}
use Rattle.mau_sorts.specs.HasSort.{Known, HasSort}

-- for each number of a store what is kept of the sorts of its term, as far as they are settled, the numbers in the order in which they
-- were settled, and those of them with sorts besides what declarations tell
pub record Table : Type 0 where
  pub entries : List (Option SortsOf)
  pub order : List ℕ
  pub further : List ℕ

abbrev pub kept_in : List (Option SortsOf) → List ℕ → List ℕ → Table
kept_in entries order further = record { entries = entries; order = order; further = further }

-- the table in which nothing is settled
abbrev pub empty_table : Table
empty_table = record { entries = []; order = []; further = [] }

-- what stands at a number; nothing stands past the end
abbrev pub entry_at : Table → ℕ → Option SortsOf
entry_at table i = slice_index_or table.entries i None

abbrev pub IsSettled : Table → ℕ → Type 0
IsSettled table i = is_some (entry_at table i) ≡ true

-- ---- what the entries say

-- the entry of each number is what is kept of the sorts of its term
abbrev pub AreEntries : SignatureOf → Known → List Node → Table → Type 0
AreEntries s known nodes table = (i : ℕ) (e : SortsOf) → entry_at table i ≡ Some e → IsOf nodes i × IsKeptOf s.hierarchy (HasSort s known (tree_at nodes i)) e

-- the entries are over these sorts and kinds
abbrev pub AreOver : Hierarchy → Table → Type 0
AreOver h table = (i : ℕ) (e : SortsOf) → entry_at table i ≡ Some e → IsOver h e

-- of the term t just these sorts are known besides
abbrev pub IsKnownOf : Known → Tree → List ℕ → Type 0
IsKnownOf known t more = (r : ℕ) → Contains known (t, r) ↔ Contains more r

-- ---- what settling asks and does

-- a node that a term over the signature has: an associative operator has a list of two or more
abbrev pub IsNodeOver : SignatureOf → Node → Type 0
IsNodeOver s (variable_node i p) = IsSort s.hierarchy p
IsNodeOver s (numeral_node n) = is_some s.numerals ≡ true
IsNodeOver s (operator_node f ids) = IsOperator s f × ((theory_at s f).assoc ≡ true → 2 ≤ length ids)

-- the term with this number is such a node, and its arguments are settled
pub record IsReady (s : SignatureOf) (nodes : List Node) (table : Table) (i : ℕ) : Type 0 where
  pub there : IsOf nodes i
  pub over : (n : Node) → slice_get nodes i ≡ Some n → IsNodeOver s n
  pub arguments : (n : Node) → slice_get nodes i ≡ Some n → All (IsSettled table) (arguments n)

-- nothing is changed
pub record AreSame (old new : Table) : Type 0 where
  pub entries : (i : ℕ) → entry_at new i ≡ entry_at old i
  pub order : new.order ≡ old.order
  pub further : new.further ≡ old.further

-- the entries that were there stay as they were, and in their order; others may have come behind them
pub record KeepsEntries (old new : Table) : Type 0 where
  pub entries : (i : ℕ) (e : SortsOf) → entry_at old i ≡ Some e → entry_at new i ≡ Some e
  pub order : (more : List ℕ) × (new.order ≡ old.order ++ more)

-- the number i gets an entry, with the sorts `more`, behind the others, which keep what they had
pub record Settles (old new : Table) (i : ℕ) (more : List ℕ) : Type 0 where
  pub settled : IsSettled new i
  pub others : (j : ℕ) → j ≢ i → entry_at new j ≡ entry_at old j
  pub order : new.order ≡ old.order ++ i ∷ []
  pub further : (q : ℕ) → Contains more q → Contains new.further i
  pub kept : (j : ℕ) → Contains old.further j → Contains new.further j

-- the order has each number that is settled, and no other, once
pub record IsOrdered (table : Table) : Type 0 where
  pub settled : (i : ℕ) → IsSettled table i ↔ Contains table.order i
  pub once : AllPairs (λ i j. i ≢ j) table.order

-- ---- terms over a signature

-- each term of the store is one over the signature
abbrev pub EachIsOver : SignatureOf → List Node → Type 0
EachIsOver s nodes = (i : ℕ) → IsOf nodes i → IsTreeOver s (tree_at nodes i)
