-- Bare terms over a signature, and equality modulo the axioms of its operators. (Terms by kinds: J. Meseguer, "Membership algebra
-- as a logical framework for equational specification", WADT 1997.)
use Rattle.std.specs.Prelude.{◌≡◌, ℕ, ◌<◌, ◌≤◌, ◌^◌, List, [], ◌∷◌, Bool, true, false, Option, Some, None}
use Rattle.mau_terms.specs.Tree.{Tree, variable, numeral, apply, Trees, no_trees, tree}
use Rattle.mau_terms.specs.Norm.{greatest_numeral, unit_tree}
use Rattle.mau_terms.specs.Axioms.{AxiomStep}
use Rattle.mau_terms.specs.Lawful.{AreLawful}
use Rattle.mau_terms.specs.declared.theory.Identity.{Identity}
use Rattle.mau_terms.specs.declared.theory.Theory.{Theory}

-- what terms and their equality need to know of a signature; operators, sorts and kinds are numbers
pub record TermSignature : Type 0 where
  -- the axioms of an operator
  pub theory : ℕ → Theory
  -- whether a number is that of an operator
  pub has_operator : ℕ → Bool
  -- the kinds of an operator's arguments, in order
  pub arguments : ℕ → List ℕ
  -- the kind of an operator's result
  pub result : ℕ → ℕ
  -- whether a number is that of a sort or a kind
  pub has_sort : ℕ → Bool
  -- the kind of a sort; a kind is its own
  pub kind_of : ℕ → ℕ
  -- the kind of the numerals, if there are any
  pub numerals : Option ℕ

-- ---- bare terms

-- t is a bare term of the kind k: a variable whose sort lies in k, a numeral, or an operator over exactly its arguments, each a
-- bare term of the kind of its place
abbrev mutual
  pub IsBareIn : TermSignature → Tree → ℕ → Type 0
  IsBareIn s (variable i r) k = (i < 2 ^ 32) × (s.has_sort r ≡ true) × (s.kind_of r ≡ k)
  IsBareIn s (numeral n) k = (n ≤ greatest_numeral) × (s.numerals ≡ Some k)
  IsBareIn s (apply f ts) k = (s.has_operator f ≡ true) × (s.result f ≡ k) × AreBareIn s ts (s.arguments f)

  -- as many bare terms as kinds, each of its kind
  pub AreBareIn : TermSignature → Trees → List ℕ → Type 0
  AreBareIn s no_trees [] = Unit {0}
  AreBareIn s no_trees (k ∷ ks) = ⊥
  AreBareIn s (tree t ts) [] = ⊥
  AreBareIn s (tree t ts) (k ∷ ks) = IsBareIn s t k × AreBareIn s ts ks

-- of some kind
abbrev pub IsBare : TermSignature → Tree → Type 0
IsBare s t = (k : ℕ) × IsBareIn s t k

-- ---- equality

-- a finite list of bare terms leads from the first to the last, each joined to the next by one use of an axiom
pub data EqualModulo (s : TermSignature) : Tree → Tree → Type 0 where
  same_term : {t : Tree} → IsBare s t → EqualModulo s t t
  one_step : {t u v : Tree} → IsBare s t → AxiomStep s.theory t u → EqualModulo s u v → EqualModulo s t v

-- ---- signatures

-- the kinds that axioms need: the two arguments of an associative operator, and of one with an identity, have the kind of its
-- result, and so has the identity; the two arguments of a commutative operator have one kind; the successor is an operator on
-- the numerals
pub record IsLawful (s : TermSignature) : Type 0 where
  pub theories : AreLawful s.theory
  pub assoc_kinds : (f : ℕ) → (s.theory f).assoc ≡ true → s.arguments f ≡ s.result f ∷ s.result f ∷ []
  pub comm_kinds : (f : ℕ) → (s.theory f).comm ≡ true → (k : ℕ) × (s.arguments f ≡ k ∷ k ∷ [])
  pub unit_kinds : (f : ℕ) (i : Identity) → (s.theory f).id ≡ Some i →
      (s.arguments f ≡ s.result f ∷ s.result f ∷ []) × IsBareIn s (unit_tree i) (s.result f)
  pub succ_kinds : (f : ℕ) → (s.theory f).succ ≡ true →
      (s.arguments f ≡ s.result f ∷ []) × (s.numerals ≡ Some (s.result f))

-- no operator has an axiom
pub record HasNoAxioms (s : TermSignature) : Type 0 where
  pub no_assoc : (f : ℕ) → (s.theory f).assoc ≡ false
  pub no_comm : (f : ℕ) → (s.theory f).comm ≡ false
  pub no_id : (f : ℕ) → (s.theory f).id ≡ None
  pub no_succ : (f : ℕ) → (s.theory f).succ ≡ false
