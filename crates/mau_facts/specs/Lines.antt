-- The lines of sections.
use Rattle.std.specs.Prelude.{◌≡◌, ℕ, ◌+◌, All, List, [], ◌∷◌, ◌++◌, length, Option, Some, None, codes}
use Rattle.std.specs.List.{flat_map}
use Rattle.mau_facts.specs.declared.fields.Range.TheVariants.{Small, NextTerm, NextFact}
use Rattle.mau_facts.specs.declared.document.Section.{Section}
use Rattle.mau_facts.specs.declared.document.TermLine.{TermLine}
use Rattle.mau_facts.specs.declared.document.Fact.{Fact as FactOf}
use Rattle.mau_facts.specs.declared.entry.Entry.{Entry}
use Rattle.mau_facts.specs.declared.entry.Entry.TheVariants.{Begin, Term, Fact, End}
use Rattle.mau_facts.specs.Fields.{Field, word, number, name, term_fields, fact_fields, HasForm}

-- the fields of a line, where so many terms and facts of its section stand before it
pub record Line : Type 0 where
  pub terms : ℕ
  pub facts : ℕ
  pub fields : List Field

abbrev pub line : ℕ → ℕ → List Field → Line
line terms facts fields = record { terms = terms; facts = facts; fields = fields }

-- the fields of a line of a section; a term or a fact has the number i
abbrev pub entry_fields : ℕ → Entry → List Field
entry_fields i (Begin k m) = word (codes "section") ∷ number Small k ∷ name m ∷ []
entry_fields i (Term t) = word (codes "term") ∷ number NextTerm i ∷ term_fields t
entry_fields i (Fact f) = word (codes "fact") ∷ number NextFact i ∷ fact_fields f
entry_fields i End = word (codes "end") ∷ []

-- the lines of terms, where k are before them
abbrev pub term_lines : ℕ → List TermLine → List Line
term_lines k [] = []
term_lines k (t ∷ ts) = line k 0 (entry_fields (k + 1) (Term t)) ∷ term_lines (k + 1) ts

-- the lines of facts behind so many terms, where k are before them
abbrev pub fact_lines : ℕ → ℕ → List FactOf → List Line
fact_lines terms k [] = []
fact_lines terms k (f ∷ fs) = line terms k (entry_fields (k + 1) (Fact f)) ∷ fact_lines terms (k + 1) fs

-- the lines of a section without its last, which is `end`
abbrev pub begun_lines : Section → List Line
begun_lines x = line 0 0 (entry_fields 0 (Begin x.item x.module)) ∷ (term_lines 0 x.terms ++ fact_lines (length x.terms) 0 x.facts)

abbrev pub section_lines : Section → List Line
section_lines x = begun_lines x ++ line (length x.terms) (length x.facts) (entry_fields 0 End) ∷ []

-- ---- what a document begins with

-- sections, and one that has no `end` yet
pub record Front : Type 0 where
  pub done : List Section
  pub begun : Option Section

abbrev pub open_lines : Option Section → List Line
open_lines None = []
open_lines (Some x) = begun_lines x

abbrev pub front_lines : Front → List Line
front_lines f = flat_map section_lines f.done ++ open_lines f.begun

-- each fact of a section has its form
abbrev pub HasForms : Section → Type 0
HasForms x = All HasForm x.facts

abbrev pub OpenHasForms : Option Section → Type 0
OpenHasForms None = Unit {0}
OpenHasForms (Some x) = HasForms x

abbrev pub FrontHasForms : Front → Type 0
FrontHasForms f = All HasForms f.done × OpenHasForms f.begun

-- Which line may stand next: `section` where no section is open, else a term before all facts, a fact, or `end`.
abbrev pub MayFollow : Option Section → Entry → Type 0
MayFollow None (Begin k m) = Unit {0}
MayFollow (Some x) (Term t) = x.facts ≡ []
MayFollow (Some x) (Fact f) = HasForm f
MayFollow (Some x) End = Unit {0}
MayFollow _ _ = ⊥
