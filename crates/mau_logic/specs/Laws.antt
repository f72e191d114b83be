-- The laws of derivations. Each is proved: a public function of the module `laws` has it for its contract.
use Rattle.std.specs.Prelude.{◌≡◌, ◌↔◌, ℕ, List, [], ◌∷◌, length, Bool, true, false, Option, Some, None, All, map}
use Rattle.mau_terms.specs.Tree.{Tree}
use Rattle.mau_terms.specs.Norm.{norm}
use Rattle.mau_terms.specs.Reading.{reading}
use Rattle.mau_terms.specs.Bare.{IsLawful, EqualModulo}
use Rattle.mau_signature.specs.Signature.{theory_at, terms_over}
use Rattle.mau_sigcheck.specs.Built.{IsBuiltAndAccepted}
use Rattle.mau_facts.specs.declared.document.Fact.{Fact}
use Rattle.mau_facts.specs.declared.document.Section.{Section}
use Rattle.mau_api.specs.Variables.{numbered}
use Rattle.mau_sorts.specs.HasSort.{Known, HasSort}
use Rattle.mau_formula.specs.Operator.{Operator}
use Rattle.mau_formula.specs.Native.{native_operator}
use Rattle.mau_formula.specs.declared.native.Native.{Native}
use Rattle.mau_program.specs.declared.program.Program.{Program}
use Rattle.mau_program.specs.LawfulPrograms.{IsLawfulProgram}
use Rattle.mau_api.specs.BuiltIns.{name_at}
use Rattle.mau_api.specs.Terms.{IsNormalTerm}
use Rattle.mau_store.specs.Node.{Node}
use Rattle.mau_sorts.specs.Table.{Table, AreEntries}
use Rattle.mau_api.specs.Events.{Event}
use Rattle.mau_api.specs.Told.{IsToldRun}
use Rattle.mau_logic.specs.Lines.{section_terms}
use Rattle.mau_logic.specs.Says.{Says, leads, of_sort, says_nothing, all_said}
use Rattle.mau_logic.specs.Justified.{AreJustifiedOver, IsJustifiedSection}
use Rattle.mau_logic.specs.Written.{named, HasTerms}
use Rattle.mau_logic.specs.Derivable.{Derivable, IsSorted, IsLed}
use Rattle.mau_logic.specs.Deduction.{equals, belongs, rewrites, Holds}
use Rattle.mau_built_ins.specs.NativeNumerals.{GivesNumerals}

-- ---- what is told

-- the normal form has a sort that a derivable fact tells
abbrev pub IsTold : Program → List Operator → Tree × ℕ → Type 0
IsTold p hooks e = (norm (theory_at p.sig) e.0 ≡ e.0) × Derivable p hooks (of_sort (reading (theory_at p.sig) e.0) e.1)

-- a sort of a normal form by declarations, and by what is known besides, is shown by facts where that is told by facts
abbrev pub SortsAreShown : Type 0
SortsAreShown =
    (p : Program) → IsLawful (terms_over p.sig) → (hooks : List Operator) (known : Known) → All (IsTold p hooks) known →
    (r : ℕ) (t : Tree) → norm (theory_at p.sig) t ≡ t → HasSort p.sig known t r → IsSorted p hooks r t

-- Each told run is led by one derivable fact from its start to its end: where the entries of the table say what sorts terms have by declarations and by
-- what facts tell, and native operators give numerals for numerals.
abbrev pub RunsAreLed : Type 0
RunsAreLed =
    (p : Program) → IsLawfulProgram p → IsLawful (terms_over p.sig) → (hooks : List Operator) → All GivesNumerals hooks → (known : Known) → All (IsTold p hooks) known →
    (nodes : List Node) (table : Table) → AreEntries p.sig known nodes table →
    (rules : Bool) (t u : Tree) (told : List Event) → IsNormalTerm p.sig t → IsToldRun p hooks nodes table rules t told u → IsLed p hooks rules t u

-- ---- what facts mean

-- what is said of each is so
abbrev pub Each : (Says → Type 0) → List Says → Type 0
Each P [] = Unit {0}
Each P (x ∷ xs) = P x × Each P xs

-- all that a justified section says is derivable
abbrev pub SectionsAreDerivable : Type 0
SectionsAreDerivable =
    (p : Program) (hooks : List Operator) (x : Section) → IsJustifiedSection p hooks x → Each (Derivable p hooks) (all_said (section_terms p x) x.facts)

-- and what is derivable can be said by the last of some justified facts, over terms that have all which it names
abbrev pub FactsAreWritten : Type 0
FactsAreWritten =
    (p : Program) (hooks : List Operator) (terms : List (Option Tree)) (x : Says) (d : Derivable p hooks x) → HasTerms terms (named p hooks d) →
    (facts : List Fact) × AreJustifiedOver p hooks terms facts (length facts) × (numbered (all_said terms facts) (length facts) ≡ Some x)

-- what a fact says holds in rewriting logic: as an equation where it is by equations alone, else as a rewrite, or as a sort of a term
abbrev pub IsDeduced : Program → List Operator → Says → Type 0
IsDeduced p hooks (leads true t u) = Holds p hooks (equals t u)
IsDeduced p hooks (leads false t u) = Holds p hooks (rewrites t u)
IsDeduced p hooks (of_sort t r) = Holds p hooks (belongs t r)
IsDeduced p hooks says_nothing = Unit {0}

-- derivable facts hold
abbrev pub FactsHold : Type 0
FactsHold =
    (p : Program) → IsBuiltAndAccepted p.sig → IsLawful (terms_over p.sig) → (hooks : List Operator) (x : Says) → Derivable p hooks x → IsDeduced p hooks x

-- and so does all that a justified section says
abbrev pub SectionsAreSound : Type 0
SectionsAreSound =
    (p : Program) → IsBuiltAndAccepted p.sig → IsLawful (terms_over p.sig) → (hooks : List Operator) (x : Section) → IsJustifiedSection p hooks x →
    Each (IsDeduced p hooks) (all_said (section_terms p x) x.facts)

-- the normal form t leads to u: it is rewritten to u, and where no rule is used it is equal to u
abbrev pub LeadsBy : Program → List Operator → Bool → Tree → Tree → Type 0
LeadsBy p hooks false t u = Holds p hooks (equals (reading (theory_at p.sig) t) (reading (theory_at p.sig) u))
LeadsBy p hooks true t u = Holds p hooks (rewrites (reading (theory_at p.sig) t) (reading (theory_at p.sig) u))

-- what a derivable fact leads to
abbrev pub LedIsSo : Type 0
LedIsSo =
    (p : Program) → IsBuiltAndAccepted p.sig → IsLawful (terms_over p.sig) → (hooks : List Operator) (rules : Bool) (t u : Tree) →
    IsLed p hooks rules t u → LeadsBy p hooks rules t u

-- ---- deduction without statements

-- no statement is used, and no operator has anything built in
pub record HasNoStatements (p : Program) : Type 0 where
  pub equations : p.equations ≡ []
  pub rules : p.rules ≡ []
  pub built_ins : (f : ℕ) → name_at p.sig f ≡ None

-- then equal are just the terms that are equal modulo the axioms
abbrev pub AxiomsAloneHold : Type 0
AxiomsAloneHold =
    (p : Program) (hooks : List Operator) → IsLawful (terms_over p.sig) → HasNoStatements p → (t u : Tree) →
    Holds p hooks (equals t u) ↔ EqualModulo (terms_over p.sig) t u
