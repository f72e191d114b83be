-- A section that proves that one normal form leads to another.
use Rattle.std.specs.Prelude.{◌≡◌, ℕ, List, All, Bool, Some}
use Rattle.mau_terms.specs.Tree.{Tree}
use Rattle.mau_terms.specs.Norm.{norm}
use Rattle.mau_signature.specs.Signature.{theory_at}
use Rattle.mau_formula.specs.Operator.{Operator}
use Rattle.mau_program.specs.declared.program.Program.{Program}
use Rattle.mau_facts.specs.declared.document.Document.{Document}
use Rattle.mau_facts.specs.declared.document.Section.{Section}
use Rattle.mau_facts.specs.Fields.{IsField}
use Rattle.mau_facts.specs.Lines.{Line, section_lines, HasForms}
use Rattle.mau_logic.specs.Says.{leads}
use Rattle.mau_logic.specs.Justified.{IsJustifiedSection}
use Rattle.mau_check.specs.Judged.{said_last, section_variables}

-- a section can stand in a document: each number is in its range, and each name is one
pub record CanBeWritten (x : Section) : Type 0 where
  pub forms : HasForms x
  pub fields : All (λ (l : Line). All (IsField l.terms l.facts) l.fields) (section_lines x)

-- The facts of the section are justified, and the last one leads from a term with the normal form t to one with the normal form u. Its variables are
-- those of the item, in their order, so that both are terms over these.
pub record Proves (p : Program) (hooks : List Operator) (pairs : List (List ℕ × ℕ)) (t u : Tree) (x : Section) : Type 0 where
  pub justified : IsJustifiedSection p hooks x
  pub variables : section_variables p x ≡ pairs
  pub by_equations : Bool
  pub from : Tree
  pub to : Tree
  pub last : said_last p x ≡ Some (leads by_equations from to)
  pub begins : norm (theory_at p.sig) from ≡ t
  pub ends : norm (theory_at p.sig) to ≡ u

-- a document of the first format, with the text of a session and these sections
abbrev pub document_of : List ℕ → List Section → Document
document_of text sections = record { version = 1; text = text; sections = sections }
