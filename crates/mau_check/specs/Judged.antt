-- What a section concludes, which is what its last fact says, and what is found of its facts.
use Rattle.std.specs.Prelude.{◌≡◌, ℕ, List, length, Option, Some, None}
use Rattle.mau_terms.specs.Tree.{Tree}
use Rattle.mau_terms.specs.declared.ids.TermId.{TermId}
use Rattle.mau_signature.specs.Signature.{SignatureOf, theory_at}
use Rattle.mau_store.specs.Node.{Node, IsOf}
use Rattle.mau_store.specs.Trees.{StandsFor}
use Rattle.mau_formula.specs.Operator.{Operator}
use Rattle.mau_program.specs.declared.program.Program.{Program}
use Rattle.mau_facts.specs.declared.document.Fact.{Fact}
use Rattle.mau_facts.specs.declared.document.Section.{Section}
use Rattle.mau_api.specs.Variables.{numbered}
use Rattle.mau_logic.specs.Lines.{lines_of, section_terms}
use Rattle.mau_logic.specs.Says.{Says, leads, of_sort, says_nothing, all_said}
use Rattle.mau_logic.specs.Justified.{AreJustifiedOver, IsJustifiedSection, IsFirstUnjustified}
use Rattle.mau_check.specs.declared.check.Conclusion.{Conclusion}
use Rattle.mau_check.specs.declared.check.Judgement.{Judgement}
use Rattle.mau_check.specs.declared.check.Judgement.TheVariants.{Accepted, Rejected}
use Rattle.mau_check.specs.declared.check.Checked.{Checked}
use Rattle.mau_check.specs.declared.check.Checked.TheVariants.{All as AllOf, Stopped}
use Rattle.mau_check.specs.Said.{AreSaid}
use Rattle.mau_check.specs.Answer.{IsFirstOver}

-- ---- conclusions

-- the last of some, if there is one
abbrev pub last_of : List Says → Option Says
last_of xs = numbered xs (length xs)

-- what the last fact of a section says
abbrev pub said_last : Program → Section → Option Says
said_last p x = last_of (all_said (section_terms p x) x.facts)

-- the variables of a section, in the order of their first lines
abbrev pub section_variables : Program → Section → List (List ℕ × ℕ)
section_variables p x = (lines_of p.sig p.sorts x.terms).pairs

-- the number is that of the normal form of t
pub record IsEnd (s : SignatureOf) (nodes : List Node) (i : TermId) (t : Tree) : Type 0 where
  pub there : IsOf nodes i.0
  pub stands : StandsFor (theory_at s) nodes i.0 t

-- the two numbers are those of what a fact leads from and to; there are none where it leads nowhere
abbrev pub AreEndsOf : SignatureOf → List Node → Option (TermId × TermId) → Option Says → Type 0
AreEndsOf s nodes (Some e) (Some (leads d t u)) = IsEnd s nodes e.0 t × IsEnd s nodes e.1 u
AreEndsOf s nodes (Some e) (Some (of_sort t r)) = ⊥
AreEndsOf s nodes (Some e) (Some says_nothing) = ⊥
AreEndsOf s nodes (Some e) None = ⊥
AreEndsOf s nodes None (Some (leads d t u)) = ⊥
AreEndsOf s nodes None (Some (of_sort t r)) = Unit {0}
AreEndsOf s nodes None (Some says_nothing) = Unit {0}
AreEndsOf s nodes None None = Unit {0}

-- a conclusion of the section x, which leads from t to u
pub record Concludes (p : Program) (x : Section) (c : Conclusion) (t u : Tree) : Type 0 where
  pub variables : c.variables ≡ section_variables p x
  pub from : IsEnd p.sig c.store c.from t
  pub to : IsEnd p.sig c.store c.to u

-- it is what a fact says, or there is none where that leads nowhere
abbrev pub IsConclusion : Program → Section → Option Conclusion → Option Says → Type 0
IsConclusion p x (Some c) (Some (leads e t u)) = Concludes p x c t u
IsConclusion p x (Some c) (Some (of_sort t r)) = ⊥
IsConclusion p x (Some c) (Some says_nothing) = ⊥
IsConclusion p x (Some c) None = ⊥
IsConclusion p x None (Some (leads e t u)) = ⊥
IsConclusion p x None (Some (of_sort t r)) = Unit {0}
IsConclusion p x None (Some says_nothing) = Unit {0}
IsConclusion p x None None = Unit {0}

-- all facts are justified, so many there are, and this is what the last one concludes; or the one with this number is the first that is not
abbrev pub IsJudgement : Program → List Operator → Section → Judgement → Type 0
IsJudgement p hooks x (Accepted n c) = IsJustifiedSection p hooks x × (n ≡ length x.facts) × IsConclusion p x c (said_last p x)
IsJudgement p hooks x (Rejected k) = IsFirstUnjustified p hooks x k

-- ---- for inner contracts

-- all facts are justified over the terms, and say this; or the one with this number is the first that is not
abbrev pub IsCheckedOver : Program → List Operator → List Node → List (Option Tree) → List Fact → Checked → Type 0
IsCheckedOver p hooks nodes terms facts (AllOf said) = AreJustifiedOver p hooks terms facts (length facts) × AreSaid p.sig nodes said.items (all_said terms facts)
IsCheckedOver p hooks nodes terms facts (Stopped k) = IsFirstOver p hooks terms facts k
