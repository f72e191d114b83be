-- The laws of the sorts of terms. Each is proved: a public function of the module `laws` has it for its contract.
use Rattle.std.specs.Prelude.{◌≡◌, ◌≢◌, ◌↔◌, ℕ, List, [], ◌++◌, All, Contains, true}
use Rattle.mau_poset.specs.Order.{IsPoset}
use Rattle.mau_terms.specs.Tree.{Tree, trees_of}
use Rattle.mau_terms.specs.Bare.{IsBare, IsBareIn}
use Rattle.mau_terms.specs.Reading.{reading}
use Rattle.mau_signature.specs.Signature.{SignatureOf, IsOperator, theory_at, terms_over}
use Rattle.mau_sigcheck.specs.Accepted.{result_kind}
use Rattle.mau_sigcheck.specs.Built.{IsBuiltAndAccepted}
use Rattle.mau_store.specs.Node.{Node, Extends}
use Rattle.mau_sorts.specs.SortSets.{SortsOf, IsKeptOf, IsMinimalSort, IsLeast, shown_sort}
use Rattle.mau_sorts.specs.HasSort.{Known, HasSort, ListHas, Gives, OfTwo}
use Rattle.mau_sorts.specs.Table.{Table, AreEntries}

-- ---- what is kept

-- what is kept of the sorts of a term are exactly its minimal sorts
abbrev pub KeptAreMinimal : Type 0
KeptAreMinimal =
    (s : SignatureOf) → IsPoset s.hierarchy → (known : Known) (t : Tree) (e : SortsOf) → IsKeptOf s.hierarchy (HasSort s known t) e →
    (m : ℕ) → Contains e.minimal m ↔ IsMinimalSort s.hierarchy (HasSort s known t) m

-- where a term has a least sort, it is the one that is shown
abbrev pub LeastIsShown : Type 0
LeastIsShown =
    (s : SignatureOf) → IsPoset s.hierarchy → (known : Known) (t : Tree) (e : SortsOf) → IsKeptOf s.hierarchy (HasSort s known t) e →
    (r : ℕ) → IsLeast s.hierarchy (HasSort s known t) r → shown_sort e ≡ r

-- a table of a store is one of each store that extends it
abbrev pub EntriesExtended : Type 0
EntriesExtended = (s : SignatureOf) (known : Known) (old new : List Node) → Extends old new → (t : Table) → AreEntries s known old t → AreEntries s known new t

-- ---- accepted signatures

-- t is a term of the kind of f's result
abbrev pub IsInKindOf : SignatureOf → ℕ → Tree → Type 0
IsInKindOf s f t = IsBareIn (terms_over s) (reading (theory_at s) t) (result_kind s f)

-- each term has a least sort by declarations
abbrev pub LeastSorts : Type 0
LeastSorts =
    (s : SignatureOf) → IsBuiltAndAccepted s → (t : Tree) → IsBare (terms_over s) (reading (theory_at s) t) →
    (r : ℕ) × IsLeast s.hierarchy (HasSort s [] t) r

-- a list under an associative operator has the sorts that its two parts give, wherever it is cut: it does not matter how it is nested
abbrev pub ListsNestAnyhow : Type 0
ListsNestAnyhow =
    (s : SignatureOf) → IsBuiltAndAccepted s → (f : ℕ) → IsOperator s f → (theory_at s f).assoc ≡ true → (xs ys : List Tree) → xs ≢ [] → ys ≢ [] →
    All (IsInKindOf s f) xs → All (IsInKindOf s f) ys → (r : ℕ) →
    ListHas s [] f (trees_of (xs ++ ys)) r ↔ Gives s f (OfTwo (λ a b. ListHas s [] f (trees_of xs) a × ListHas s [] f (trees_of ys) b)) r
