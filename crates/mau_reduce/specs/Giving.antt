-- What a built-in gives as a term: a normal form of the kind of the term at whose top it is.
use Rattle.std.specs.Prelude.{◌≡◌, ℕ, ◌≤◌, List, Option, Some, IfSome}
use Rattle.mau_terms.specs.Tree.{Tree, apply, trees_of}
use Rattle.mau_terms.specs.Norm.{norm, greatest_numeral}
use Rattle.mau_terms.specs.Bare.{IsBareIn}
use Rattle.mau_terms.specs.Reading.{reading}
use Rattle.mau_terms.specs.declared.theory.Theory.{Theory}
use Rattle.mau_signature.specs.Signature.{SignatureOf, IsOperator, theory_at, terms_over}
use Rattle.mau_formula.specs.Operator.{Operator}
use Rattle.mau_store.specs.Node.{Node}
use Rattle.mau_store.specs.Trees.{tree_at}
use Rattle.mau_canon.specs.Standing.{StandsWithin}
use Rattle.mau_evaluation.specs.Program.{value, BuiltIn, on_numerals, choice, equality}
use Rattle.mau_evaluation.specs.Evaluation.{native_by}
use Rattle.mau_api.specs.BuiltIns.{built_in_at}
use Rattle.mau_api.specs.Terms.{IsNormalTerm}
use Rattle.mau_reduce.specs.declared.given.Given.{Given}
use Rattle.mau_reduce.specs.declared.given.Given.TheVariants.{Nothing, TooLarge, Argument, Whole, Before}
use Rattle.mau_reduce.specs.BuiltOperators.{leaf_tree, before_others, answer_of, built_gives}

-- ---- what is asked of a program

-- b gives normal forms
abbrev pub GivesNormal : SignatureOf → BuiltIn → Type 0
GivesNormal s (on_numerals op) = (m n : ℕ) (v : Tree) → m ≤ greatest_numeral → n ≤ greatest_numeral → op m n ≡ value v → norm (theory_at s) v ≡ v
GivesNormal s (choice a b) = Unit {0}
GivesNormal s (equality a b) = (norm (theory_at s) a ≡ a) × (norm (theory_at s) b ≡ b)

abbrev pub GivesNormalIfAny : SignatureOf → Option BuiltIn → Type 0
GivesNormalIfAny s o = IfSome o (GivesNormal s)

-- what is built in gives terms of the kind of its operator, and normal forms but for an argument or a whole list
pub record GivesInKind (s : SignatureOf) (hooks : List Operator) : Type 0 where
  pub kinds : (f : ℕ) (us : List Tree) (v : Tree) (k : ℕ) → IsNormalTerm s (apply f (trees_of us)) → IsBareIn (terms_over s) (reading (theory_at s) (apply f (trees_of us))) k →
      native_by (built_in_at s hooks f) (theory_at s f) f us ≡ value v → IsBareIn (terms_over s) (reading (theory_at s) (norm (theory_at s) v)) k
  pub normal : (f : ℕ) (b : BuiltIn) → IsOperator s f → built_in_at s hooks f ≡ Some b → GivesNormal s b

-- ---- what was given

-- there is a value
abbrev pub GivesValue : Given → Type 0
GivesValue Nothing = ⊥
GivesValue TooLarge = ⊥
GivesValue (Argument i) = Unit {0}
GivesValue (Whole l) = Unit {0}
GivesValue (Before l) = Unit {0}

-- the value that is given for t
abbrev pub given_value : List Node → (ℕ → Theory) → Tree → Given → Tree
given_value nodes th t Nothing = t
given_value nodes th t TooLarge = t
given_value nodes th t (Argument i) = tree_at nodes i.0
given_value nodes th t (Whole l) = leaf_tree l
given_value nodes th t (Before l) = before_others th t (leaf_tree l)

-- an argument is a term of the store within the limits, and a leaf is a normal form
abbrev pub CanBeTaken : SignatureOf → List Node → Given → Type 0
CanBeTaken s nodes Nothing = Unit {0}
CanBeTaken s nodes TooLarge = Unit {0}
CanBeTaken s nodes (Argument i) = StandsWithin (theory_at s) nodes i.0
CanBeTaken s nodes (Whole l) = norm (theory_at s) (leaf_tree l) ≡ leaf_tree l
CanBeTaken s nodes (Before l) = norm (theory_at s) (leaf_tree l) ≡ leaf_tree l

-- it is what the built-in at the top of t gives
pub record IsGivenAt (s : SignatureOf) (hooks : List Operator) (nodes : List Node) (t : Tree) (given : Given) : Type 0 where
  pub answer : built_gives s hooks t ≡ answer_of nodes (theory_at s) t given
  pub taken : CanBeTaken s nodes given
