-- What is kept of the built-in of an operator, and what it gives for a term.
use Rattle.std.specs.Prelude.{◌≡◌, ℕ, List, ◌∷◌, drop, Option, Some, None, if◌then◌else◌}
use Rattle.mau_terms.specs.Tree.{Tree, variable, numeral, apply, Trees, no_trees, list_of}
use Rattle.mau_terms.specs.Norm.{build}
use Rattle.mau_terms.specs.declared.ids.OpId.{OpId}
use Rattle.mau_terms.specs.declared.theory.Theory.{Theory}
use Rattle.mau_formula.specs.Operator.{Operator, operator_named}
use Rattle.mau_formula.specs.Expr.{value}
use Rattle.mau_formula.specs.declared.formula.Gives.{Gives}
use Rattle.mau_store.specs.Node.{Node, IsOf}
use Rattle.mau_store.specs.Trees.{tree_at}
use Rattle.mau_evaluation.specs.Program.{Answer, no_value, value as gives_value, too_large, BuiltIn, on_numerals, choice, equality}
use Rattle.mau_api.specs.BuiltIns.{answer_in, same_gives}
use Rattle.mau_signature.specs.Signature.{SignatureOf, theory_at}
use Rattle.mau_evaluation.specs.Evaluation.{native_by}
use Rattle.mau_api.specs.BuiltIns.{built_in_at, name_at}
use Rattle.mau_reduce.specs.declared.given.Leaf.{Leaf}
use Rattle.mau_reduce.specs.declared.given.Leaf.TheVariants.{Number, Constant}
use Rattle.mau_reduce.specs.declared.given.Given.{Given}
use Rattle.mau_reduce.specs.declared.given.Given.TheVariants.{Nothing as NoValue, TooLarge, Argument, Whole, Before}
use Rattle.mau_reduce.specs.declared.built_in.Truths.{Truths}
use Rattle.mau_reduce.specs.declared.built_in.BuiltIn as Kept
use Rattle.mau_reduce.specs.declared.built_in.BuiltIn.TheVariants.{Nothing, Branch, Same, Native}

-- a constant as a tree; the operator 0, which is none, where it is not there
abbrev pub constant_tree : Option OpId → Tree
constant_tree (Some op) = apply op.0 no_trees
constant_tree None = apply 0 no_trees

-- the function of numerals that the native operator is, if it gives the kind of answer that is wanted
abbrev pub native_kept : Gives → Truths → Option Operator → Option BuiltIn
native_kept wanted t None = None
native_kept wanted t (Some o) =
    if same_gives wanted o.gives then Some (on_numerals (λ m n. answer_in o.gives (constant_tree t.yes) (constant_tree t.no) (value o.formula m n))) else None

-- what is built in, under the name of an operator, by the native operators of a table
abbrev pub meaning_of : List Operator → Option (List ℕ) → Kept.BuiltIn → Option BuiltIn
meaning_of hooks name Nothing = None
meaning_of hooks name (Branch t) = Some (choice (constant_tree t.yes) (constant_tree t.no))
meaning_of hooks name (Same t) = Some (equality (constant_tree t.yes) (constant_tree t.no))
meaning_of hooks None (Native wanted t) = None
meaning_of hooks (Some name) (Native wanted t) = native_kept wanted t (operator_named hooks name)

-- what a function of numerals gives for two numbers; nothing else gives anything
abbrev pub number_answer : Option BuiltIn → ℕ → ℕ → Answer
number_answer None m n = no_value
number_answer (Some (on_numerals op)) m n = op m n
number_answer (Some (choice a b)) m n = no_value
number_answer (Some (equality a b)) m n = no_value

-- ---- what it gives

-- a term without arguments, as a tree
abbrev pub leaf_tree : Leaf → Tree
leaf_tree (Number n) = numeral n
leaf_tree (Constant op) = constant_tree op

-- v in the place of the first two of the list of t
abbrev pub before_others : (ℕ → Theory) → Tree → Tree → Tree
before_others th (apply f ts) v = build (th f) f (v ∷ drop 2 (list_of ts))
before_others th (variable i s) v = v
before_others th (numeral n) v = v

-- the answer for t
abbrev pub answer_of : List Node → (ℕ → Theory) → Tree → Given → Answer
answer_of nodes th t NoValue = no_value
answer_of nodes th t TooLarge = too_large
answer_of nodes th t (Argument i) = gives_value (tree_at nodes i.0)
answer_of nodes th t (Whole l) = gives_value (leaf_tree l)
answer_of nodes th t (Before l) = gives_value (before_others th t (leaf_tree l))

-- it is no argument, and stands before nothing
abbrev pub HasNoArgument : Given → Type 0
HasNoArgument NoValue = Unit {0}
HasNoArgument TooLarge = Unit {0}
HasNoArgument (Argument i) = ⊥
HasNoArgument (Whole l) = Unit {0}
HasNoArgument (Before l) = ⊥

-- what is built in gives for a normal form, by a signature and the native operators of a table
abbrev pub built_gives : SignatureOf → List Operator → Tree → Answer
built_gives s hooks (apply f ts) = native_by (built_in_at s hooks f) (theory_at s f) f (list_of ts)
built_gives s hooks (variable i r) = no_value
built_gives s hooks (numeral n) = no_value

-- the built-in that is kept is that of the top of t
abbrev pub IsBuiltAt : SignatureOf → List Operator → Tree → Kept.BuiltIn → Type 0
IsBuiltAt s hooks t b = (f : ℕ) (ts : Trees) → t ≡ apply f ts → built_in_at s hooks f ≡ meaning_of hooks (name_at s f) b

-- an argument is a term of the store
abbrev pub IsThere : List Node → Given → Type 0
IsThere nodes NoValue = Unit {0}
IsThere nodes TooLarge = Unit {0}
IsThere nodes (Argument i) = IsOf nodes i.0
IsThere nodes (Whole l) = Unit {0}
IsThere nodes (Before l) = Unit {0}
