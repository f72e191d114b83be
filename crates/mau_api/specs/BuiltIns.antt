-- What is built in of the operators of a signature: by its name, and by the native operators of a table. Evaluation and derivations both go by this.
use Rattle.std.specs.Prelude.{◌≡◌, ◌↔◌, ℕ, suc, ◌==◌, Bool, true, false, List, [], ◌∷◌, map, Option, Some, None, Contains, bytes_eq, codes, if◌then◌else◌}
use Rattle.mau_poset.specs.Order.{kind_of}
use Rattle.mau_terms.specs.Tree.{Tree, numeral, apply, no_trees, node}
use Rattle.mau_terms.specs.Norm.{norm, arrange, all_pieces}
use Rattle.mau_terms.specs.Bare.{IsLawful}
use Rattle.mau_terms.specs.Reading.{reading}
use Rattle.mau_signature.specs.declared.form.Piece.TheVariants.{Word}
use Rattle.mau_signature.specs.Names.{constant_of, place_of}
use Rattle.mau_signature.specs.Signature.{SignatureOf, declarations_at, attributes_of, arguments_of, result_of, theory_at, terms_over}
use Rattle.mau_formula.specs.Operator.{Operator, operator_named}
use Rattle.mau_formula.specs.Expr.{value}
use Rattle.mau_formula.specs.Native.{natives, native_operator, name_of, gives_of}
use Rattle.mau_formula.specs.declared.native.Native.{Native}
use Rattle.mau_formula.specs.declared.formula.Gives.{Gives}
use Rattle.mau_formula.specs.declared.formula.Gives.TheVariants.{Nat as Numbers, Bool as Truths}
use Rattle.mau_formula.specs.declared.formula.HookAnswer.{HookAnswer}
use Rattle.mau_formula.specs.declared.formula.HookAnswer.TheVariants.{Value, NoValue, Overflow}
use Rattle.mau_evaluation.specs.Program.{Answer, no_value, value as gives_value, too_large, BuiltIn, on_numerals, choice, equality}
use Rattle.mau_evaluation.specs.Evaluation.{native_on, native_by}

-- ---- truth values

-- the constant of one word in the kind k, as a tree; the operator 0, which is none, where it is not there
abbrev pub constant_in : SignatureOf → ℕ → List ℕ → Tree
constant_in s k word = elim (place_of s.names (constant_of (Word word ∷ []) k)) [ Some i ↦ apply (suc i) no_trees | None ↦ apply 0 no_trees ]

-- what stands for true and for false in the kind k
abbrev pub true_in : SignatureOf → ℕ → Tree
true_in s k = constant_in s k (codes "true")

abbrev pub false_in : SignatureOf → ℕ → Tree
false_in s k = constant_in s k (codes "false")

abbrev pub first_number : List ℕ → ℕ
first_number [] = 0
first_number (n ∷ ns) = n

-- the kinds of the first argument and of the result of the operator f
abbrev pub first_kind : SignatureOf → ℕ → ℕ
first_kind s f = kind_of s.hierarchy (first_number (arguments_of (declarations_at s f)))

abbrev pub result_kind : SignatureOf → ℕ → ℕ
result_kind s f = kind_of s.hierarchy (result_of (declarations_at s f))

-- ---- native operators

-- what the answer for two numbers stands for: a numeral, or, by 1 and 0, true or false
abbrev pub answer_in : Gives → Tree → Tree → HookAnswer → Answer
answer_in gives t u NoValue = no_value
answer_in gives t u Overflow = too_large
answer_in Numbers t u (Value n) = gives_value (numeral n)
answer_in Truths t u (Value n) = gives_value (if n == 1 then t else u)

-- the function of numerals that the native operator o is for f
abbrev pub function_of : SignatureOf → ℕ → Operator → BuiltIn
function_of s f o = on_numerals (λ m n. answer_in o.gives (true_in s (result_kind s f)) (false_in s (result_kind s f)) (value o.formula m n))

-- ---- by name

-- the two kinds of answer are one
abbrev pub same_gives : Gives → Gives → Bool
same_gives Numbers Numbers = true
same_gives Truths Truths = true
same_gives Numbers Truths = false
same_gives Truths Numbers = false

-- the native operator of the table, where it gives the kind of answer that a native operator of its name has to give
abbrev pub as_wanted : SignatureOf → ℕ → Option Operator → Option Operator → Option BuiltIn
as_wanted s f (Some wanted) (Some o) = if same_gives wanted.gives o.gives then Some (function_of s f o) else None
as_wanted s f (Some wanted) None = None
as_wanted s f None o = None

-- what the operator f has built in under a name
abbrev pub built_in_named : SignatureOf → List Operator → ℕ → List ℕ → Option BuiltIn
built_in_named s hooks f name =
    if bytes_eq name (codes "branch") then Some (choice (true_in s (first_kind s f)) (false_in s (first_kind s f)))
    else if bytes_eq name (codes "same") then Some (equality (true_in s (result_kind s f)) (false_in s (result_kind s f)))
    else if bytes_eq name (codes "differ") then Some (equality (false_in s (result_kind s f)) (true_in s (result_kind s f)))
    else as_wanted s f (operator_named (map native_operator natives) name) (operator_named hooks name)

-- the name of what is built in of the operator f
abbrev pub name_at : SignatureOf → ℕ → Option (List ℕ)
name_at s f = (attributes_of (declarations_at s f)).builtin

abbrev pub built_in_by : SignatureOf → List Operator → ℕ → Option (List ℕ) → Option BuiltIn
built_in_by s hooks f None = None
built_in_by s hooks f (Some name) = built_in_named s hooks f name

-- what is built in of the operator f
abbrev pub built_in_at : SignatureOf → List Operator → ℕ → Option BuiltIn
built_in_at s hooks f = built_in_by s hooks f (name_at s f)

-- ---- the same as a relation

-- the table has the native operator o under the name of what is built in of f, and o gives what a native operator of this name has to give
pub record IsNative (s : SignatureOf) (hooks : List Operator) (f : ℕ) (o : Operator) : Type 0 where
  pub native : Native
  pub listed : Contains natives native
  pub named : name_at s f ≡ Some (name_of native)
  pub hook : operator_named hooks (name_of native) ≡ Some o
  pub gives : gives_of native ≡ o.gives

pub data IsBuiltIn (s : SignatureOf) (hooks : List Operator) (f : ℕ) : BuiltIn → Type 0 where
  is_branch : name_at s f ≡ Some (codes "branch") → IsBuiltIn s hooks f (choice (true_in s (first_kind s f)) (false_in s (first_kind s f)))
  is_same : name_at s f ≡ Some (codes "same") → IsBuiltIn s hooks f (equality (true_in s (result_kind s f)) (false_in s (result_kind s f)))
  is_differ : name_at s f ≡ Some (codes "differ") → IsBuiltIn s hooks f (equality (false_in s (result_kind s f)) (true_in s (result_kind s f)))
  is_native : (o : Operator) → IsNative s hooks f o → IsBuiltIn s hooks f (function_of s f o)

-- just that is built in
abbrev pub BuiltInsAreNamed : Type 0
BuiltInsAreNamed = (s : SignatureOf) (hooks : List Operator) (f : ℕ) (b : BuiltIn) → (built_in_at s hooks f ≡ Some b) ↔ IsBuiltIn s hooks f b

-- ---- what it gives over bare terms

-- The normal forms that a built-in looks at: those of the arguments as they are; and of an operator on numerals those that stand under its normal form,
-- so that under an associative and commutative one the first two of the whole list count
abbrev pub looked_at : BuiltIn → SignatureOf → ℕ → List Tree → List Tree
looked_at (on_numerals op) s f ts = arrange (theory_at s f).comm (all_pieces (theory_at s f).assoc (theory_at s f).id f (map (norm (theory_at s)) ts))
looked_at (choice a b) s f ts = map (norm (theory_at s)) ts
looked_at (equality a b) s f ts = map (norm (theory_at s)) ts

abbrev pub answer_by : Option BuiltIn → SignatureOf → ℕ → List Tree → Answer
answer_by None s f ts = no_value
answer_by (Some b) s f ts = native_on b (theory_at s f) f (looked_at b s f ts)

-- what the operator f gives over these bare terms
abbrev pub built_answer : SignatureOf → List Operator → ℕ → List Tree → Answer
built_answer s hooks f ts = answer_by (built_in_at s hooks f) s f ts

-- over the arguments of a normal form, read as bare terms, it is what an evaluation gives of the normal form
abbrev pub AnswersOfReadings : Type 0
AnswersOfReadings =
    (s : SignatureOf) → IsLawful (terms_over s) → (hooks : List Operator) (f : ℕ) (us : List Tree) → norm (theory_at s) (node f us) ≡ node f us →
    built_answer s hooks f (map (reading (theory_at s)) us) ≡ native_by (built_in_at s hooks f) (theory_at s f) f us
