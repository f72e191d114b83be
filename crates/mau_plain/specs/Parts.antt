-- What is gathered of a term, part by part.
use Rattle.std.specs.Prelude.{◌≡◌, ◌⊎◌, ℕ, ◌+◌, ◌≤◌, List, All, Contains, length}
use Rattle.mau_terms.specs.Tree.{Tree, numeral, node, trees_of}
use Rattle.mau_terms.specs.Norm.{norm}
use Rattle.mau_terms.specs.Finite.{IsIn, arguments_of}
use Rattle.mau_terms.specs.Solution.{list_under, over_list}
use Rattle.mau_terms.specs.declared.ids.TermId.{TermId}
use Rattle.mau_terms.specs.declared.theory.Theory.{Theory}
use Rattle.mau_store.specs.Node.{Node}
use Rattle.mau_store.specs.Trees.{trees_at}
use Rattle.mau_store.specs.View.{numbers}
use Rattle.mau_canon.specs.Within.{IsWithin}
use Rattle.mau_listing.specs.Values.{IsPartUnder, MayBeValue, MayBeValueOfOne}

-- z is the normal form of f over these, and within the limits
abbrev pub IsOverList : (ℕ → Theory) → ℕ → List Tree → Tree → Type 0
IsOverList th f ts z = (z ≡ norm th (node f ts)) × IsWithin th z

-- z is that over one of some lists of numbers
abbrev pub IsOverOneList : (ℕ → Theory) → ℕ → List Node → List (List TermId) → Tree → Type 0
IsOverOneList th f nodes ls z = (l : List TermId) × Contains ls l × IsOverList th f (trees_at nodes (numbers l)) z

-- z is that over elements of t's list, no more than there are
abbrev pub IsWordOf : (ℕ → Theory) → ℕ → Tree → Tree → Type 0
IsWordOf th f t z = (ts : List Tree) × All (λ u. IsIn u (list_under (th f) f t)) ts × (length ts ≤ length (list_under (th f) f t)) × IsWithin th z × (z ≡ over_list (th f) f ts)

-- z is an argument of t, or the numeral before t
abbrev pub IsBelowOrLess : Tree → Tree → Type 0
IsBelowOrLess t z = IsIn z (arguments_of t) ⊎ ((n : ℕ) × (t ≡ numeral (n + 1)) × (z ≡ numeral n))

-- v may be the value of a variable of the pattern p, where the normal form of the instance is one of ts
abbrev pub IsOfSome : (ℕ → Theory) → Tree → List Tree → Tree → Type 0
IsOfSome th p ts v = (t : Tree) × IsIn t ts × MayBeValue th p t v

-- of one of several patterns
abbrev pub IsOfSomeOfAll : (ℕ → Theory) → List Tree → List Tree → Tree → Type 0
IsOfSomeOfAll th ps ts v = (t : Tree) × IsIn t ts × MayBeValueOfOne th (trees_of ps) t v

-- z may have been an argument of f, where the normal form is one of ts
abbrev pub IsPartOfOne : (ℕ → Theory) → ℕ → List Tree → Tree → Type 0
IsPartOfOne th f ts z = (t : Tree) × IsIn t ts × IsPartUnder th f t z
