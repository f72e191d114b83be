-- How fields are spelled.
use Rattle.std.specs.Prelude.{ℕ, List, [], ◌∷◌, ◌++◌, decimal}
use Rattle.std.specs.List.{flat_map}
use Rattle.mau_facts.specs.Fields.{Field, field_word}
use Rattle.mau_facts.specs.declared.document.Section.{Section}
use Rattle.mau_facts.specs.Lines.{Line, section_lines}

-- fields, each behind a space
abbrev pub behind : List Field → List ℕ
behind [] = []
behind (f ∷ fs) = (32 ∷ field_word f) ++ behind fs

abbrev pub numbers_text : List ℕ → List ℕ
numbers_text [] = []
numbers_text (n ∷ ns) = (32 ∷ decimal n) ++ numbers_text ns

-- fields with spaces between them
abbrev pub spelled : List Field → List ℕ
spelled [] = []
spelled (f ∷ fs) = field_word f ++ behind fs

-- a line with its line feed
abbrev pub line_text : Line → List ℕ
line_text l = spelled l.fields ++ 10 ∷ []

abbrev pub lines_text : List Line → List ℕ
lines_text ls = flat_map line_text ls

abbrev pub sections_text : List Section → List ℕ
sections_text [] = []
sections_text (x ∷ xs) = lines_text (section_lines x) ++ sections_text xs
