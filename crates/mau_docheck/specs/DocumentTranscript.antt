-- The transcript of a document: the answers of its sections, one after another.
use Rattle.std.specs.Prelude.{◌≡◌, ℕ, List, [], ◌∷◌, ◌++◌, Bool, true, false, ◌||◌, Some, None, slice_get, codes}
use Rattle.mau_formula.specs.Operator.{Operator}
use Rattle.mau_facts.specs.Documents.{IsDocument}
use Rattle.mau_facts.specs.Faults.{IsFault}
use Rattle.mau_facts.specs.declared.document.Document.{Document}
use Rattle.mau_facts.specs.declared.document.Section.{Section}
use Rattle.mau_facts.specs.declared.fault.FactFault.TheVariants.{Unexpected, BadNumber}
use Rattle.mau_logic.specs.Justified.{IsJustifiedSection, IsFirstUnjustified}
use Rattle.mau_module.specs.Modules.{ModuleOf}
use Rattle.mau_module.specs.Library.{last_named}
use Rattle.mau_module.specs.Lawful.{program_of}
use Rattle.mau_docheck.specs.Known.{KnownBefore}
use Rattle.mau_docheck.specs.Answers.{unknown_line, accepted_lines, rejected_line, fault_line}

-- the answer of a section in its module, and whether it was rejected: all facts are justified, or the fact k is the first that is not
pub data JudgedAs (hooks : List Operator) (m : ModuleOf) (x : Section) : List ℕ → Bool → Type 0 where
  accepts : IsJustifiedSection (program_of m) hooks x → JudgedAs hooks m x (accepted_lines m x) false
  rejects : (k : ℕ) → IsFirstUnjustified (program_of m) hooks x k → JudgedAs hooks m x (rejected_line x.item k) true

-- the answer of a section, where ms are known before its item: its module is the last of its name
pub data SectionAnswer (hooks : List Operator) (ms : List ModuleOf) (x : Section) : List ℕ → Bool → Type 0 where
  module_unknown : last_named ms x.«module» ≡ None → SectionAnswer hooks ms x (unknown_line x.item x.«module») true
  section_judged : (n : ℕ) (m : ModuleOf) (bytes : List ℕ) (refused : Bool) → last_named ms x.«module» ≡ Some n → slice_get ms n ≡ Some m
      → JudgedAs hooks m x bytes refused → SectionAnswer hooks ms x bytes refused

-- the answers of sections, one after another, and whether one of them was refused or rejected
pub data SectionsAnswer (hooks : List Operator) (text : List ℕ) : List Section → List ℕ → Bool → Type 0 where
  no_sections : SectionsAnswer hooks text [] [] false
  first_section : (x : Section) (xs : List Section) (ms : List ModuleOf) (bytes more : List ℕ) (refused later : Bool) → KnownBefore text x.item ms
      → SectionAnswer hooks ms x bytes refused → SectionsAnswer hooks text xs more later → SectionsAnswer hooks text (x ∷ xs) (bytes ++ more) (refused || later)

-- What is written of a document in a session with these native operators, and whether it or one of its sections was refused or rejected. Bytes that are no
-- document are refused at their first line at fault.
pub data DocumentTranscript (hooks : List Operator) (bytes : List ℕ) : List ℕ → Bool → Type 0 where
  unexpected : (n : ℕ) → IsFault bytes (Unexpected n) → DocumentTranscript hooks bytes (fault_line (codes "Unexpected") n) true
  bad_number : (n : ℕ) → IsFault bytes (BadNumber n) → DocumentTranscript hooks bytes (fault_line (codes "BadNumber") n) true
  is_document : (d : Document) (out : List ℕ) (refused : Bool) → IsDocument bytes d → SectionsAnswer hooks d.text d.sections out refused
      → DocumentTranscript hooks bytes out refused
