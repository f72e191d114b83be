-- What the sorts of a node are by the entries of its arguments: what is computed, to which the derivations are compared.
use Rattle.std.specs.Prelude.{◌≡◌, ◌⊎◌, ◌↔◌, ℕ, List, [], ◌∷◌, map, Option, Some, None}
use Rattle.std.specs.Bool.{MatchBool}
use denote.Ref.{Bor}
use Rattle.mau_poset.specs.Order.{Hierarchy, IsAtOrBelow, kind_of}
use Rattle.mau_signature.specs.declared.decl.Decl.{Decl}
use Rattle.mau_signature.specs.Signature.{SignatureOf, theory_at}
use Rattle.mau_store.specs.Node.{Node, numeral_node, variable_node, operator_node}
use Rattle.mau_sorts.specs.SortSets.{SortsOf, IsAbove, IsIn}
use Rattle.mau_sorts.specs.HasSort.{Gives, NumeralHas, OfTwo, Suits}
use Rattle.mau_sorts.specs.Table.{Table, entry_at}

-- the sets that are lent
abbrev pub sets : List (Bor SortsOf) → List SortsOf
sets es = map (λ e. e.now) es

-- each sort is of the set in its place
abbrev pub AllIn : Hierarchy → List SortsOf → List ℕ → Type 0
AllIn h [] [] = Unit {0}
AllIn h [] (r ∷ rs) = ⊥
AllIn h (e ∷ es) [] = ⊥
AllIn h (e ∷ es) (r ∷ rs) = IsIn h e r × AllIn h es rs

-- f over a list that is nested to the right, by the sets of its elements
abbrev pub ListIn : SignatureOf → ℕ → List SortsOf → ℕ → Type 0
ListIn s f [] r = ⊥
ListIn s f (e ∷ []) r = IsIn s.hierarchy e r
ListIn s f (e ∷ d ∷ es) r = Gives s f (λ rs. OfTwo (λ a b. IsIn s.hierarchy e a × ListIn s f (d ∷ es) b) rs) r

abbrev pub OverIn : SignatureOf → ℕ → List SortsOf → ℕ → Type 0
OverIn s f es r = MatchBool (theory_at s f).assoc (ListIn s f es r) (Gives s f (λ rs. AllIn s.hierarchy es rs) r)

-- the set at a number; that of a number without an entry is never meant
abbrev pub set_or_none : Option SortsOf → SortsOf
set_or_none (Some e) = e
set_or_none None = record { minimal = []; kind = 0 }

abbrev pub sets_at : Table → List ℕ → List SortsOf
sets_at table ids = map (λ i. set_or_none (entry_at table i)) ids

-- the node has the sort r by the entries of its arguments
abbrev pub NodeHas : SignatureOf → Table → Node → ℕ → Type 0
NodeHas s table (variable_node i p) r = IsAtOrBelow s.hierarchy p r
NodeHas s table (numeral_node n) r = NumeralHas s n r
NodeHas s table (operator_node f ids) r = OverIn s f (sets_at table ids) r

-- the same, or by the sorts `more`
abbrev pub NodeHasWith : SignatureOf → Table → Node → List ℕ → ℕ → Type 0
NodeHasWith s table n more r = NodeHas s table n r ⊎ IsAbove s.hierarchy more r

-- what one more declaration adds to minimal sorts: its result, where P holds of its argument sorts; its kind is there in any case
abbrev pub AddsResult : Hierarchy → Decl → (List ℕ → Type 0) → List ℕ → List ℕ → Type 0
AddsResult h d P old new = (r : ℕ) → (IsAbove h new r ⊎ (kind_of h d.result ≡ r)) ↔ (IsAbove h old r ⊎ (Suits P d × IsAtOrBelow h d.result r) ⊎ (kind_of h d.result ≡ r))
