-- The sorts that a term has: by the declarations of its operators, by subsorts, and by what else is known of it. (Terms with
-- several sorts: J. Goguen and J. Meseguer, "Order-sorted algebra I", Theoretical Computer Science 105, 1992; sorts by further
-- axioms: J. Meseguer, "Membership algebra as a logical framework for equational specification", WADT 1997.)
use Rattle.std.specs.Prelude.{◌≡◌, ◌⊎◌, ℕ, List, [], ◌∷◌, true, Contains}
use Rattle.std.specs.Bool.{MatchBool}
use Rattle.mau_terms.specs.Tree.{Tree, variable, numeral, apply, Trees, no_trees, tree}
use Rattle.mau_poset.specs.Order.{Hierarchy, kind_of, IsAtOrBelow}
use Rattle.mau_signature.specs.declared.decl.Decl.{Decl}
use Rattle.mau_signature.specs.Signature.{SignatureOf, declarations_at, theory_at, result_of, swapped}
use Rattle.mau_sigcheck.specs.Accepted.{IsSortOfNumeral}

-- what else is known of terms: each of these terms has the sort that stands beside it
abbrev pub Known : Type 0
Known = List (Tree × ℕ)

-- t has the sort r by what else is known
abbrev pub IsKnown : Hierarchy → Known → Tree → ℕ → Type 0
IsKnown h known t r = (q : ℕ) × Contains known (t, q) × IsAtOrBelow h q r

-- a numeral has the sort r: 0 has the first sort of the numerals, and all others have the second
abbrev pub NumeralHas : SignatureOf → ℕ → ℕ → Type 0
NumeralHas s n r = (q : ℕ) × IsSortOfNumeral s.numerals n q × IsAtOrBelow s.hierarchy q r

-- the argument sorts of a declaration suit: P holds of them, or under comm of them in the other order
abbrev pub Suits : (List ℕ → Type 0) → Decl → Type 0
Suits P d = P d.args ⊎ ((d.attrs.comm ≡ true) × P (swapped d.args))

-- a declaration gives the sort r where its argument sorts suit
pub record IsDeclared (h : Hierarchy) (ds : List Decl) (P : List ℕ → Type 0) (r : ℕ) : Type 0 where
  pub declaration : Decl
  pub declared : Contains ds declaration
  pub suits : Suits P declaration
  pub below : IsAtOrBelow h declaration.result r

-- the operator f gives the sort r where P says which argument sorts suit: by a declaration, or as the kind of its result
abbrev pub Gives : SignatureOf → ℕ → (List ℕ → Type 0) → ℕ → Type 0
Gives s f P r = IsDeclared s.hierarchy (declarations_at s f) P r ⊎ (kind_of s.hierarchy (result_of (declarations_at s f)) ≡ r)

-- Q holds of two sorts
abbrev pub OfTwo : (ℕ → ℕ → Type 0) → List ℕ → Type 0
OfTwo Q (a ∷ b ∷ []) = Q a b
OfTwo Q _ = ⊥

-- The normal form t has the sort r: an element of this type is a finite derivation of it. With a sort a term has all that are above
-- it, and so its kind. The arguments of an associative operator count as nested to the right, and of the terms that arise so only
-- the declarations tell the sorts.
abbrev mutual
  pub HasSort : SignatureOf → Known → Tree → ℕ → Type 0
  HasSort s known (variable i p) r = IsAtOrBelow s.hierarchy p r ⊎ IsKnown s.hierarchy known (variable i p) r
  HasSort s known (numeral n) r = NumeralHas s n r ⊎ IsKnown s.hierarchy known (numeral n) r
  HasSort s known (apply f ts) r =
      MatchBool (theory_at s f).assoc (ListHas s known f ts r) (Gives s f (λ rs. AllHave s known ts rs) r)
      ⊎ IsKnown s.hierarchy known (apply f ts) r

  -- each term has the sort in its place
  pub AllHave : SignatureOf → Known → Trees → List ℕ → Type 0
  AllHave s known no_trees [] = Unit {0}
  AllHave s known no_trees (r ∷ rs) = ⊥
  AllHave s known (tree t ts) [] = ⊥
  AllHave s known (tree t ts) (r ∷ rs) = HasSort s known t r × AllHave s known ts rs

  -- f over a list that is nested to the right; one element is itself
  pub ListHas : SignatureOf → Known → ℕ → Trees → ℕ → Type 0
  ListHas s known f no_trees r = ⊥
  ListHas s known f (tree t no_trees) r = HasSort s known t r
  ListHas s known f (tree t (tree u us)) r = Gives s f (λ rs. OfTwo (λ a b. HasSort s known t a × ListHas s known f (tree u us) b) rs) r
