-- What is known of built-ins in lawful programs.
use Rattle.std.specs.Prelude.{◌≡◌, ℕ, ◌≤◌, List, Some, All}
use Rattle.mau_terms.specs.Tree.{Tree, apply, trees_of}
use Rattle.mau_terms.specs.Norm.{norm, greatest_numeral}
use Rattle.mau_terms.specs.Bare.{IsBareIn, IsLawful}
use Rattle.mau_terms.specs.Reading.{reading}
use Rattle.mau_signature.specs.Signature.{SignatureOf, IsOperator, theory_at, terms_over}
use Rattle.mau_formula.specs.Operator.{Operator}
use Rattle.mau_formula.specs.Native.{native_operator}
use Rattle.mau_formula.specs.declared.native.Native.{Native}
use Rattle.mau_program.specs.declared.program.Program.{Program}
use Rattle.mau_program.specs.LawfulPrograms.{IsLawfulProgram}
use Rattle.mau_evaluation.specs.Program.{value, BuiltIn, on_numerals, choice, equality}
use Rattle.mau_evaluation.specs.Evaluation.{native_by}
use Rattle.mau_api.specs.BuiltIns.{built_in_at}
use Rattle.mau_api.specs.Terms.{IsNormalTerm}
use Rattle.mau_built_ins.specs.NativeNumerals.{GivesNumerals, HasNumerals}

-- what is built in gives terms of the kind of the operator
abbrev pub AnswersAreInKind : Program → List Operator → Type 0
AnswersAreInKind p hooks =
    (f : ℕ) (us : List Tree) (a : Tree) (k : ℕ) → IsNormalTerm p.sig (apply f (trees_of us)) → IsBareIn (terms_over p.sig) (reading (theory_at p.sig) (apply f (trees_of us))) k →
    native_by (built_in_at p.sig hooks f) (theory_at p.sig f) f us ≡ value a → IsBareIn (terms_over p.sig) (reading (theory_at p.sig) (norm (theory_at p.sig) a)) k

-- b gives normal forms; of a choice an argument is given
abbrev pub GivesNormal : SignatureOf → BuiltIn → Type 0
GivesNormal s (on_numerals op) = (m n : ℕ) (v : Tree) → m ≤ greatest_numeral → n ≤ greatest_numeral → op m n ≡ value v → norm (theory_at s) v ≡ v
GivesNormal s (choice a b) = Unit {0}
GivesNormal s (equality a b) = (norm (theory_at s) a ≡ a) × (norm (theory_at s) b ≡ b)

-- so does what is built in
abbrev pub AnswersAreNormal : Program → List Operator → Type 0
AnswersAreNormal p hooks = (f : ℕ) (b : BuiltIn) → IsOperator p.sig f → built_in_at p.sig hooks f ≡ Some b → GivesNormal p.sig b

-- In a lawful program both hold, where native operators give numerals.
abbrev pub BuiltInsGiveTheirKind : Type 0
BuiltInsGiveTheirKind =
    (p : Program) → IsLawfulProgram p → IsLawful (terms_over p.sig) → (hooks : List Operator) → All GivesNumerals hooks → AnswersAreInKind p hooks × AnswersAreNormal p hooks

-- ---- native operators

-- a formula of numerals gives numerals for numerals
abbrev pub LiteralsGiveNumerals : Type 0
LiteralsGiveNumerals = (o : Operator) → HasNumerals o.formula → GivesNumerals o

-- and so do the native operators
abbrev pub NativesGiveNumerals : Type 0
NativesGiveNumerals = (n : Native) → GivesNumerals (native_operator n)
