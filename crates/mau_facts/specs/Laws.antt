-- What is proved of documents.
use Rattle.std.specs.Prelude.{◌≡◌, ℕ, List}
use Rattle.mau_facts.specs.declared.document.Document.{Document}
use Rattle.mau_facts.specs.Documents.{IsDocument, IsWritable}
use Rattle.mau_facts.specs.Faults.{IsFirstFault}

-- bytes are one document at most
abbrev pub DocumentsAreOne : Type 0
DocumentsAreOne = (bytes : List ℕ) (d e : Document) → IsDocument bytes d → IsDocument bytes e → d ≡ e

-- a document has one spelling at most
abbrev pub SpellingsAreOne : Type 0
SpellingsAreOne = (a b : List ℕ) (d : Document) → IsDocument a d → IsDocument b d → a ≡ b

-- what was read can be written
abbrev pub DocumentsAreWritable : Type 0
DocumentsAreWritable = (bytes : List ℕ) (d : Document) → IsDocument bytes d → IsWritable d

-- what can be written has a spelling
abbrev pub WritableHaveBytes : Type 0
WritableHaveBytes = (d : Document) → IsWritable d → (bytes : List ℕ) × IsDocument bytes d

-- a document has no first fault
abbrev pub DocumentsHaveNoFault : Type 0
DocumentsHaveNoFault = (bytes : List ℕ) (d : Document) (n : ℕ) → IsDocument bytes d → IsFirstFault bytes n → ⊥

-- bytes have one first fault at most
abbrev pub FaultsAreOne : Type 0
FaultsAreOne = (bytes : List ℕ) (n m : ℕ) → IsFirstFault bytes n → IsFirstFault bytes m → n ≡ m
