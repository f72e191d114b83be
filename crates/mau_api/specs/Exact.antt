-- What the view of a program gives is exact: its words compute what the definitions of the crates below say.
use Rattle.std.specs.Prelude.{◌≡◌, ◌↔◌, ℕ, List, [], ◌∷◌, true}
use Rattle.std.specs.Bool.{MatchBool}
use Rattle.mau_terms.specs.Tree.{Trees, no_trees, tree}
use Rattle.mau_terms.specs.Finite.{IsIn}
use Rattle.mau_poset.specs.Order.{Hierarchy, IsPoset, IsAtOrBelow}
use Rattle.mau_signature.specs.Faults.{IsSort}
use Rattle.mau_signature.specs.Signature.{SignatureOf, IsOperator, theory_at}
use Rattle.mau_sorts.specs.HasSort.{Known, HasSort, NumeralHas, Gives, AllHave, ListHas}
use Rattle.mau_sigcheck.specs.Built.{IsBuiltAndAccepted}
use Rattle.mau_api.specs.SortLists.{is_at_or_below, sorts_above, sorts_of_numeral, sorts_over}

-- the order of sorts is that by chains of subsort pairs, with the kinds on top
abbrev pub SubsortsAreChains : Type 0
SubsortsAreChains = (h : Hierarchy) (a b : ℕ) → (is_at_or_below h a b ≡ true) ↔ IsAtOrBelow h a b

-- the sorts and kinds above one
abbrev pub SortsAboveAreAll : Type 0
SortsAboveAreAll = (h : Hierarchy) → IsPoset h → (a : ℕ) → IsSort h a → (r : ℕ) → IsIn r (sorts_above h a) ↔ IsAtOrBelow h a r

-- the sorts of a numeral
abbrev pub NumeralSortsAreAll : Type 0
NumeralSortsAreAll = (s : SignatureOf) → IsBuiltAndAccepted s → (n r : ℕ) → IsIn r (sorts_of_numeral s n) ↔ NumeralHas s n r

-- each list has just the sorts of the term in its place
abbrev pub AreSortsOf : SignatureOf → Known → Trees → List (List ℕ) → Type 0
AreSortsOf s known no_trees [] = Unit {0}
AreSortsOf s known no_trees (ss ∷ args) = ⊥
AreSortsOf s known (tree t ts) [] = ⊥
AreSortsOf s known (tree t ts) (ss ∷ args) = ((r : ℕ) → IsIn r ss ↔ HasSort s known t r) × AreSortsOf s known ts args

-- f over these terms has the sort r by its declarations
abbrev pub HasByDeclarations : SignatureOf → Known → ℕ → Trees → ℕ → Type 0
HasByDeclarations s known f ts r = MatchBool (theory_at s f).assoc (ListHas s known f ts r) (Gives s f (λ rs. AllHave s known ts rs) r)

-- what declarations give over arguments with these sorts
abbrev pub DeclaredSortsAreAll : Type 0
DeclaredSortsAreAll =
    (s : SignatureOf) → IsBuiltAndAccepted s → (known : Known) (f : ℕ) → IsOperator s f → (ts : Trees) (args : List (List ℕ)) → AreSortsOf s known ts args → (r : ℕ) →
    IsIn r (sorts_over s f args) ↔ HasByDeclarations s known f ts r
