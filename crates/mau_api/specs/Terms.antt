-- Terms that may be evaluated, and contexts.
use Rattle.std.specs.Prelude.{◌≡◌, ℕ, ◌==◌, List, [], ◌∷◌, ◌++◌, if◌then◌else◌}
use Rattle.mau_terms.specs.Tree.{Tree, variable, numeral, apply, Trees, no_trees, tree}
use Rattle.mau_terms.specs.Norm.{norm}
use Rattle.mau_terms.specs.Bare.{TermSignature, IsBareIn, IsBare}
use Rattle.mau_terms.specs.Reading.{reading}
use Rattle.mau_terms.specs.Subst.{Variable, instance}
use Rattle.mau_signature.specs.Signature.{SignatureOf, theory_at, terms_over}
use Rattle.mau_store.specs.Node.{Node}
use Rattle.mau_store.specs.Trees.{tree_at}
use Rattle.mau_canon.specs.Within.{IsWithin}
use Rattle.mau_canon.specs.Standing.{StandsWithin}

-- ---- terms within the limits

-- a bare term whose normal form is within the limits
abbrev pub IsBareWithin : SignatureOf → Tree → Type 0
IsBareWithin s t = IsBare (terms_over s) t × IsWithin (theory_at s) (norm (theory_at s) t)

-- t is the normal form of a bare term, within the limits or not
abbrev pub IsNormalBare : SignatureOf → Tree → Type 0
IsNormalBare s t = (norm (theory_at s) t ≡ t) × IsBare (terms_over s) (reading (theory_at s) t)

-- the normal form of a bare term that is within the limits
pub record IsNormalTerm (s : SignatureOf) (t : Tree) : Type 0 where
  pub normal : norm (theory_at s) t ≡ t
  pub term : IsBareWithin s (reading (theory_at s) t)

-- i is the number of such a normal form
pub record IsTerm (s : SignatureOf) (nodes : List Node) (i : ℕ) : Type 0 where
  pub within : StandsWithin (theory_at s) nodes i
  pub bare : IsBare (terms_over s) (reading (theory_at s) (tree_at nodes i))

-- ---- contexts: terms with one hole

-- the index of a hole, which is a variable whose sort is a kind
abbrev pub hole_index : ℕ
hole_index = 4294967295

-- u in place of a hole; any other variable stays
abbrev pub filler : Tree → Variable → Tree
filler u x = if x.0 == hole_index then u else variable x.0 x.1

-- the context c with u in its hole
abbrev pub fill : Tree → Tree → Tree
fill c u = instance (filler u) c

-- the kinds of all holes, from left to right
abbrev mutual
  pub holes : Tree → List ℕ
  holes (variable i k) = if i == hole_index then k ∷ [] else []
  holes (numeral n) = []
  holes (apply f ts) = holes_in ts

  pub holes_in : Trees → List ℕ
  holes_in no_trees = []
  holes_in (tree t ts) = holes t ++ holes_in ts

-- c has just one hole, and it is of the kind in which t lies
abbrev pub IsContextFor : TermSignature → Tree → Tree → Type 0
IsContextFor s t c = (k : ℕ) × IsBareIn s t k × (holes c ≡ k ∷ [])
