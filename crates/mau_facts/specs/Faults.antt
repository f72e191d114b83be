-- The first line at which some bytes are no document.
use Rattle.std.specs.Prelude.{◌≡◌, ◌≢◌, ◌⊎◌, ℕ, ◌+◌, ◌-◌, ◌<◌, ◌^◌, ◌==◌, List, [], ◌∷◌, ◌++◌, length, All, codes, count_by, if◌then◌else◌}
use Rattle.mau_facts.specs.declared.fields.Range.TheVariants.{Small}
use Rattle.mau_facts.specs.declared.document.Document.{Document}
use Rattle.mau_facts.specs.declared.entry.Entry.{Entry}
use Rattle.mau_facts.specs.declared.fault.FactFault.{FactFault}
use Rattle.mau_facts.specs.declared.fault.FactFault.TheVariants.{Unexpected, BadNumber, NoMemory}
use Rattle.mau_facts.specs.Fields.{Field, word, number, IsLikeWordOf, AreWordsOf}
use Rattle.mau_facts.specs.Lines.{Front, front_lines, FrontHasForms, entry_fields, MayFollow}
use Rattle.mau_facts.specs.Documents.{words, AreLines, joined, head, IsDocument}

-- the first n lines of some bytes, with their line feeds; all bytes where there are not so many
abbrev pub first_lines : ℕ → List ℕ → List ℕ
first_lines n [] = []
first_lines n (b ∷ bs) = if n == 0 then [] else (b ∷ first_lines (if b == 10 then n - 1 else n) bs)

-- some document has the same first n lines
pub record CanBegin (bytes : List ℕ) (n : ℕ) : Type 0 where
  pub other : List ℕ
  pub document : Document
  pub is_document : IsDocument other document
  pub agrees : first_lines n other ≡ first_lines n bytes

-- no document has the same first n lines, but some document has the same lines before line n
pub record IsFirstFault (bytes : List ℕ) (n : ℕ) : Type 0 where
  pub above : 0 < n
  pub before : CanBegin bytes (n - 1)
  pub none : CanBegin bytes n → ⊥

-- ---- numbers at fault

-- the second line may stand there: it says how long the text is
pub record IsTextLine (before : List ℕ) (fields : List Field) : Type 0 where
  pub is_before : before ≡ codes "mrew-facts 1" ++ 10 ∷ []
  pub size : ℕ
  pub is_fields : fields ≡ word (codes "text") ∷ number Small size ∷ []

-- a line of a section may stand there, behind the lines of a front
pub record IsSectionLine (before : List ℕ) (fields : List Field) : Type 0 where
  pub text : List ℕ
  pub size : length text < 2 ^ 32
  pub front : Front
  pub forms : FrontHasForms front
  pub lines : List (List ℕ)
  pub are_lines : AreLines (front_lines front) lines
  pub is_before : before ≡ head text ++ joined lines
  pub entry : Entry
  pub follows : MayFollow front.begun entry
  pub index : ℕ
  pub is_fields : fields ≡ entry_fields index entry

-- Line n differs in numbers alone from a line that may stand behind the lines before it.
pub record IsNumberAtFault (bytes : List ℕ) (n : ℕ) : Type 0 where
  pub before : List ℕ
  pub line : List ℕ
  pub rest : List ℕ
  pub at : bytes ≡ before ++ (line ++ 10 ∷ rest)
  pub count : count_by (λ b. b == 10) before + 1 ≡ n
  pub one_line : All (λ b. b ≢ 10) line
  pub fields : List Field
  pub may_stand : IsTextLine before fields ⊎ IsSectionLine before fields
  pub like : AreWordsOf IsLikeWordOf fields (words line)

-- what each fault says
abbrev pub IsFault : List ℕ → FactFault → Type 0
IsFault bytes (Unexpected n) = IsFirstFault bytes n × (IsNumberAtFault bytes n → ⊥)
IsFault bytes (BadNumber n) = IsFirstFault bytes n × IsNumberAtFault bytes n
IsFault bytes NoMemory = Unit {0}
