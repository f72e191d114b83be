-- What a built-in gives over terms that are kept, and what a check answers.
use Rattle.std.specs.Prelude.{◌≡◌, ℕ, ◌-◌, List, [], ◌∷◌, length, take, Option, Some, None}
use Rattle.mau_terms.specs.Tree.{Tree}
use Rattle.mau_terms.specs.Norm.{norm}
use Rattle.mau_terms.specs.Reading.{reading}
use Rattle.mau_terms.specs.Bare.{IsBareIn}
use Rattle.mau_terms.specs.declared.ids.TermId.{TermId}
use Rattle.mau_signature.specs.Signature.{SignatureOf, theory_at, terms_over}
use Rattle.mau_store.specs.Node.{Node}
use Rattle.mau_store.specs.Trees.{StandsFor}
use Rattle.mau_canon.specs.Standing.{StandsWithin}
use Rattle.mau_formula.specs.Operator.{Operator}
use Rattle.mau_evaluation.specs.Program.{Answer, value}
use Rattle.mau_program.specs.declared.program.Program.{Program}
use Rattle.mau_facts.specs.declared.document.Fact.{Fact}
use Rattle.mau_facts.specs.declared.document.Section.{Section}
use Rattle.mau_api.specs.Terms.{IsBareWithin}
use Rattle.mau_api.specs.Variables.{numbered}
use Rattle.mau_logic.specs.Says.{all_said}
use Rattle.mau_logic.specs.Justified.{IsJustified, AreJustifiedOver, IsJustifiedSection, IsFirstUnjustified}
use Rattle.mau_reduce.specs.BuiltOperators.{constant_tree}
use Rattle.mau_reduce.specs.declared.built_in.Truths.{Truths}
use Rattle.mau_check.specs.declared.kept.Kept.{Kept}
use Rattle.mau_check.specs.declared.check.CheckAnswer.{CheckAnswer}
use Rattle.mau_check.specs.declared.check.CheckAnswer.TheVariants.{Accepted, Rejected}

-- ---- built-ins

-- the number is that of a term's normal form, within the limits, and the term lies in the kind k
pub record IsPart (s : SignatureOf) (nodes : List Node) (k : ℕ) (t : Tree) (i : TermId) : Type 0 where
  pub kind : IsBareIn (terms_over s) t k
  pub within : StandsWithin (theory_at s) nodes i.0
  pub stands : StandsFor (theory_at s) nodes i.0 t

-- the value of an answer, read as a bare term, of the kind k; there is no such value within the limits where nothing is found
abbrev pub IsGiven : SignatureOf → List Node → ℕ → Answer → Option TermId → Type 0
IsGiven s nodes k a (Some i) = (v : Tree) × (a ≡ value v) × IsPart s nodes k (reading (theory_at s) (norm (theory_at s) v)) i
IsGiven s nodes k a None = (v : Tree) → a ≡ value v → IsBareWithin s (reading (theory_at s) (norm (theory_at s) v)) → ⊥

-- the second and the third of three lie in the kind k
abbrev pub ChosenLieIn : ℕ → List Kept → Type 0
ChosenLieIn k (x ∷ y ∷ z ∷ []) = (y.kind ≡ k) × (z.kind ≡ k)
ChosenLieIn k _ = Unit {0}

-- the two constants lie in the kind k
abbrev pub TruthsLieIn : SignatureOf → ℕ → Truths → Type 0
TruthsLieIn s k t = IsBareIn (terms_over s) (constant_tree t.yes) k × IsBareIn (terms_over s) (constant_tree t.no) k

-- ---- answers

-- the fact k, counted from 1, is the first of some facts that is not justified over the terms
pub record IsFirstOver (p : Program) (hooks : List Operator) (terms : List (Option Tree)) (facts : List Fact) (k : ℕ) : Type 0 where
  pub fact : Fact
  pub at : numbered facts k ≡ Some fact
  pub before : AreJustifiedOver p hooks terms facts (k - 1)
  pub unjustified : IsJustified p hooks terms (all_said terms (take (k - 1) facts)) fact → ⊥

-- all facts are justified, and so many there are; or the one with this number is the first that is not
abbrev pub IsAnswer : Program → List Operator → Section → CheckAnswer → Type 0
IsAnswer p hooks x (Accepted n) = IsJustifiedSection p hooks x × (n ≡ length x.facts)
IsAnswer p hooks x (Rejected k) = IsFirstUnjustified p hooks x k
