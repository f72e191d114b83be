-- What some facts show: sorts of terms, and fragments of conditions.
use Rattle.std.specs.Prelude.{◌≡◌, ℕ, List, [], ◌∷◌, Bool, true, false, Contains}
use Rattle.mau_terms.specs.Tree.{Tree}
use Rattle.mau_terms.specs.Norm.{norm}
use Rattle.mau_terms.specs.Bare.{EqualModulo}
use Rattle.mau_terms.specs.Subst.{Variable, instance}
use Rattle.mau_terms.specs.View.{tree_of}
use Rattle.mau_signature.specs.Signature.{SignatureOf, theory_at, terms_over}
use Rattle.mau_sorts.specs.HasSort.{Known, HasSort}
use Rattle.mau_program.specs.declared.statements.Fragment.{Fragment}
use Rattle.mau_program.specs.declared.statements.Fragment.TheVariants.{Equal, Match, Sort, Reach}
use Rattle.mau_logic.specs.Says.{Says, leads, of_sort, says_nothing}

-- ---- sorts

-- the sorts that facts tell; each holds of all terms that are equal modulo the axioms, so of the normal form
abbrev pub known_by : SignatureOf → List Says → Known
known_by s [] = []
known_by s (of_sort t r ∷ xs) = (norm (theory_at s) t, r) ∷ known_by s xs
known_by s (leads e t u ∷ xs) = known_by s xs
known_by s (says_nothing ∷ xs) = known_by s xs

-- t has the sort r by declarations, read on its normal form, given what the facts tell
abbrev pub HasSortBy : SignatureOf → List Says → ℕ → Tree → Type 0
HasSortBy s us r t = HasSort s (known_by s us) (norm (theory_at s) t) r

-- ---- fragments

-- one of the facts leads from t to u, up to the axioms, and by equations alone where e is true
pub record LeadsTo (s : SignatureOf) (us : List Says) (e : Bool) (t u : Tree) : Type 0 where
  pub start : Tree
  pub end : Tree
  pub by_equations : Bool
  pub fact : Contains us (leads by_equations start end)
  pub kind : e ≡ true → by_equations ≡ true
  pub from : EqualModulo (terms_over s) t start
  pub to : EqualModulo (terms_over s) end u

-- the facts show a fragment for a substitution: of t = u both sides lead to one term
abbrev pub Shows : SignatureOf → List Says → (Variable → Tree) → Fragment → Type 0
Shows s us g (Equal t u) = (v : Tree) × LeadsTo s us true (instance g (tree_of t)) v × LeadsTo s us true (instance g (tree_of u)) v
Shows s us g (Match p u) = LeadsTo s us true (instance g (tree_of u)) (instance g (tree_of p))
Shows s us g (Sort t r) = (v : Tree) × LeadsTo s us true (instance g (tree_of t)) v × HasSortBy s us r v
Shows s us g (Reach t u) = LeadsTo s us false (instance g (tree_of t)) (instance g (tree_of u))

abbrev pub ShowsAll : SignatureOf → List Says → (Variable → Tree) → List Fragment → Type 0
ShowsAll s us g [] = Unit {0}
ShowsAll s us g (c ∷ cs) = Shows s us g c × ShowsAll s us g cs
