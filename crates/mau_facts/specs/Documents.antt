-- Documents.
use Rattle.std.specs.Prelude.{◌≡◌, ◌≢◌, ℕ, ◌<◌, ◌^◌, ◌==◌, List, [], ◌∷◌, ◌++◌, length, All, codes, decimal}
use Rattle.std.specs.List.{flat_map, slice_split}
use Rattle.mau_facts.specs.declared.document.Document.{Document}
use Rattle.mau_facts.specs.Fields.{IsField, IsWordOf, AreWordsOf}
use Rattle.mau_facts.specs.Lines.{Line, section_lines, HasForms}

-- the words of a line, which spaces part
abbrev pub words : List ℕ → List (List ℕ)
words bytes = slice_split (λ b. b == 32) bytes

-- the bytes are those of the line, without its line feed
abbrev pub IsLine : Line → List ℕ → Type 0
IsLine l bytes = AreWordsOf (IsWordOf l.terms l.facts) l.fields (words bytes) × All (λ b. b ≢ 10) bytes

abbrev pub AreLines : List Line → List (List ℕ) → Type 0
AreLines [] [] = Unit {0}
AreLines [] (b ∷ bs) = ⊥
AreLines (l ∷ ls) [] = ⊥
AreLines (l ∷ ls) (b ∷ bs) = IsLine l b × AreLines ls bs

-- lines, each ended by a line feed
abbrev pub joined : List (List ℕ) → List ℕ
joined bs = flat_map (λ b. b ++ 10 ∷ []) bs

-- the bytes before the sections: two lines, and the text with a line feed
abbrev pub head : List ℕ → List ℕ
head text = codes "mrew-facts 1" ++ 10 ∷ (codes "text " ++ (decimal (length text) ++ 10 ∷ (text ++ 10 ∷ [])))

-- the bytes are the document
pub record IsDocument (bytes : List ℕ) (document : Document) : Type 0 where
  pub version : document.version ≡ 1
  pub size : length document.text < 2 ^ 32
  pub forms : All HasForms document.sections
  pub lines : List (List ℕ)
  pub are_lines : AreLines (flat_map section_lines document.sections) lines
  pub whole : bytes ≡ head document.text ++ joined lines

-- What can be written: each number is in its range, each name is one.
pub record IsWritable (document : Document) : Type 0 where
  pub version : document.version ≡ 1
  pub size : length document.text < 2 ^ 32
  pub forms : All HasForms document.sections
  pub fields : All (λ l. All (IsField l.terms l.facts) l.fields) (flat_map section_lines document.sections)
