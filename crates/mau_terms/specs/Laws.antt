-- The laws of equality, of normal forms and of the orders. Each is proved: a public function of the module `laws` has it for its
-- contract.
use Rattle.std.specs.Prelude.{◌≡◌, ℕ, true, List, [], ◌∷◌, ◌++◌, ◌↔◌, Some, map, length, slice_get}
use Rattle.std.specs.declared.cmp.Ordering.TheVariants.{Equal as Tied}
use Rattle.std.specs.Cmp.{IsTotalOrder}
use Rattle.mau_terms.specs.Tree.{Tree}
use Rattle.mau_terms.specs.Order.{tree_cmp}
use Rattle.mau_terms.specs.Norm.{unit_tree, norm, build, arrange}
use Rattle.mau_terms.specs.Lawful.{AreLawful}
use Rattle.mau_terms.specs.Bare.{TermSignature, IsBare, IsBareIn, EqualModulo, IsLawful, HasNoAxioms}
use Rattle.mau_terms.specs.Subst.{Variable, variables, instance, with_values}
use Rattle.mau_terms.specs.Finite.{IsIn}
use Rattle.mau_terms.specs.Reading.{reading}
use Rattle.mau_terms.specs.Solution.{Fits, FitsWithin, HaveSorts, ArePieces, list_under, over_list, solution_cmp}
use Rattle.mau_terms.specs.CanTake.{CanTake, CanTakeNormal}
use Rattle.mau_terms.specs.Vars.{place_of, with_pair}
use Rattle.mau_terms.specs.declared.theory.Identity.{Identity}
use Rattle.mau_terms.specs.declared.theory.Theory.{Theory}

-- ---- equality and normal forms

-- bare terms over a lawful signature are equal modulo the axioms exactly where their normal forms are the same tree
abbrev pub EqualWhereNormsAre : Type 0
EqualWhereNormsAre =
    (s : TermSignature) → IsLawful s → (t u : Tree) → IsBare s t → IsBare s u →
    EqualModulo s t u ↔ (norm s.theory t ≡ norm s.theory u)

-- equality modulo the axioms holds from each bare term to itself, in both directions, and along a chain
pub record IsEquivalence (s : TermSignature) : Type 0 where
  pub reflexive : (t : Tree) → IsBare s t → EqualModulo s t t
  pub symmetric : (t u : Tree) → EqualModulo s t u → EqualModulo s u t
  pub transitive : (t u v : Tree) → EqualModulo s t u → EqualModulo s u v → EqualModulo s t v

abbrev pub EqualIsEquivalence : Type 0
EqualIsEquivalence = (s : TermSignature) → IsEquivalence s

-- a normal form is its own
abbrev pub NormIsNormal : Type 0
NormIsNormal = (th : ℕ → Theory) → AreLawful th → (t : Tree) → norm th (norm th t) ≡ norm th t

-- each bare term is equal to its normal form, read as a bare term
abbrev pub NormIsEqual : Type 0
NormIsEqual =
    (s : TermSignature) → IsLawful s → (t : Tree) → IsBare s t →
    EqualModulo s t (reading s.theory (norm s.theory t))

-- where no operator has an axiom, bare terms are equal exactly where they are the same
abbrev pub EqualWhereSame : Type 0
EqualWhereSame =
    (s : TermSignature) → HasNoAxioms s → (t u : Tree) → IsBare s t → IsBare s u →
    EqualModulo s t u ↔ (t ≡ u)

-- where no operator has an axiom, each tree is a normal form
abbrev pub PlainIsNormal : Type 0
PlainIsNormal = (s : TermSignature) → HasNoAxioms s → (t : Tree) → norm s.theory t ≡ t

-- the instance of a bare term by values that lie in the kinds of their variables' sorts is a bare term of the same kind
abbrev pub InstancesAreBare : Type 0
InstancesAreBare =
    (s : TermSignature) (p : Tree) (k : ℕ) → IsBareIn s p k → (vs : List Tree) →
    HaveSorts (λ r v. IsBareIn s v (s.kind_of r)) (variables p) vs → IsBareIn s (with_values p vs) k

-- the normal form of an instance depends on the normal forms of the values alone
abbrev pub InstancesByNorms : Type 0
InstancesByNorms =
    (th : ℕ → Theory) (g h : Variable → Tree) → ((x : Variable) → norm th (g x) ≡ norm th (h x)) →
    (p : Tree) → norm th (instance g p) ≡ norm th (instance h p)

-- ---- lists of an associative operator

-- each is a normal form
abbrev pub AreNorms : (ℕ → Theory) → List Tree → Type 0
AreNorms th [] = Unit {0}
AreNorms th (t ∷ ts) = (norm th t ≡ t) × AreNorms th ts

-- the list of an associative operator over two terms is the join of their lists, in order where the operator is commutative
abbrev pub ListOfTwo : Type 0
ListOfTwo =
    (th : ℕ → Theory) → AreLawful th → (f : ℕ) → (th f).assoc ≡ true → (t u : Tree) →
    list_under (th f) f (build (th f) f (norm th t ∷ norm th u ∷ []))
    ≡ arrange (th f).comm (list_under (th f) f (norm th t) ++ list_under (th f) f (norm th u))

-- the identity has the empty list
abbrev pub IdentityHasNoElements : Type 0
IdentityHasNoElements = (h : Theory) (f : ℕ) (i : Identity) → h.id ≡ Some i → list_under h f (unit_tree i) ≡ []

-- a list may be built from its second element on first
abbrev pub ListsNest : Type 0
ListsNest =
    (th : ℕ → Theory) → AreLawful th → (f : ℕ) → (th f).assoc ≡ true → (t u : Tree) (us : List Tree) → AreNorms th (t ∷ u ∷ us) →
    build (th f) f (t ∷ u ∷ us) ≡ build (th f) f (t ∷ build (th f) f (u ∷ us) ∷ [])

-- a bare term is equal to f over a list exactly where its normal form is that of f over the list
abbrev pub OverListIsEqual : Type 0
OverListIsEqual =
    (s : TermSignature) → IsLawful s → (f : ℕ) (t : Tree) (ts : List Tree) → IsBare s t → ArePieces s.theory f ts →
    let whole = over_list (s.theory f) f ts in
    IsBare s (reading s.theory whole) → EqualModulo s t (reading s.theory whole) ↔ (norm s.theory t ≡ whole)

-- ---- orders

-- the order of trees is total, and only the same tree ties
abbrev pub TreesAreOrdered : Type 0
TreesAreOrdered = IsTotalOrder tree_cmp × ((t u : Tree) → tree_cmp t u ≡ Tied → t ≡ u)

-- the order of solutions is total
abbrev pub SolutionsAreOrdered : Type 0
SolutionsAreOrdered = (th : ℕ → Theory) (p : Tree) → IsTotalOrder (solution_cmp th p)

-- solutions that tie have one left context and equal values
abbrev pub TiesAreEqual : Type 0
TiesAreEqual =
    (th : ℕ → Theory) → AreLawful th → (p : Tree) (x y : List Tree × List Tree) →
    length x.1 ≡ length (variables p) → length y.1 ≡ length (variables p) →
    solution_cmp th p x y ≡ Tied → (x.0 ≡ y.0) × (map (norm th) x.1 ≡ map (norm th) y.1)

-- ---- solutions

-- the left context and the values, up to equality, determine the right context
abbrev pub RightIsDetermined : Type 0
RightIsDetermined =
    (s : TermSignature) → IsLawful s → (p t : Tree) (vs ws left r1 r2 : List Tree) →
    map (norm s.theory) vs ≡ map (norm s.theory) ws →
    FitsWithin s p t vs left r1 → FitsWithin s p t ws left r2 → r1 ≡ r2

-- a pattern and a subject have finitely many solutions, up to equality of the values
abbrev pub SolutionsAreFinite : Type 0
SolutionsAreFinite =
    (s : TermSignature) → IsLawful s → (p t : Tree) →
    (all : List (List Tree)) × ((vs : List Tree) → Fits s p t vs → IsIn (map (norm s.theory) vs) all)

-- the same with contexts
abbrev pub SolutionsWithinAreFinite : Type 0
SolutionsWithinAreFinite =
    (s : TermSignature) → IsLawful s → (p t : Tree) →
    (contexts values : List (List Tree)) × ((vs left right : List Tree) → FitsWithin s p t vs left right →
    IsIn left contexts × IsIn right contexts × IsIn (map (norm s.theory) vs) values)

-- ---- what a subject can take

-- of the subject and the argument only the normal forms matter
abbrev pub CanTakeByNorms : Type 0
CanTakeByNorms =
    (s : TermSignature) → IsLawful s → (f : ℕ) (t v : Tree) → IsBare s t → IsBare s v →
    CanTake s f t v ↔ CanTakeNormal s f (norm s.theory t) (norm s.theory v)

-- a subject can take finitely many arguments, up to equality
abbrev pub TakenAreFinite : Type 0
TakenAreFinite =
    (s : TermSignature) → IsLawful s → (f : ℕ) (t : Tree) →
    (all : List Tree) × ((v : Tree) → CanTake s f t v → IsIn (norm s.theory v) all)

-- ---- the variables of an item

-- a pair that is added stands at its place, and the others keep theirs
pub record KeepsPlaces (xs : List (List ℕ × ℕ)) (x : List ℕ × ℕ) : Type 0 where
  pub stands : slice_get (with_pair xs x) (place_of xs x) ≡ Some x
  pub stay : (k : ℕ) (y : List ℕ × ℕ) → slice_get xs k ≡ Some y → slice_get (with_pair xs x) k ≡ Some y

abbrev pub PairsKeepPlaces : Type 0
PairsKeepPlaces = (xs : List (List ℕ × ℕ)) (x : List ℕ × ℕ) → KeepsPlaces xs x
