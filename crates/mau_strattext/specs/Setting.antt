-- What strategies are read over, and what names name there. A place is the number of a word of the strategy, counted from 0.
use Rattle.std.specs.Prelude.{ℕ, ◌-◌, ◌==◌, List, length, map, take, drop, Bool, ◌&&◌, ◌||◌, not, Option, codes, bytes_eq, find, All}
use Rattle.std.specs.List.{list_any}
use Rattle.mau_tokens.specs.declared.token.Token.{Token}
use Rattle.mau_modtext.specs.Word.{Word}
use Rattle.mau_declare.specs.Words.{text_at, place_at}
use Rattle.mau_poset.specs.Order.{Hierarchy}
use Rattle.mau_signature.specs.Faults.{IsSort}
use Rattle.mau_program.specs.declared.definitions.StratDecl.{StratDecl}
use Rattle.mau_shapes.specs.Words.{Words}
use Rattle.mau_shapes.specs.declared.pieces.Part.{Part}
use Rattle.mau_statement.specs.Context.{ContextOf}
use Rattle.mau_statement.specs.Parts.{part_words}

-- the words of a strategy; the signature with its grammar; the labels of rules; and the strategies that are declared
pub record SettingOf : Type 0 where
  pub words : List Word
  pub context : ContextOf
  pub labels : List (List ℕ)
  pub names : List StratDecl

-- the tokens ts of a text with these words are those of the strategy
abbrev pub setting_of : List Word → List Token → ContextOf → List (List ℕ) → List StratDecl → SettingOf
setting_of ws ts c labels names = record { words = part_words ws ts; context = c; labels = labels; names = names }

-- ---- words and parts

-- what the words read
abbrev pub texts : SettingOf → Words
texts s = map (λ w. w.text) s.words

-- the word at a place, and where its first byte stands in the text
abbrev pub word_at : SettingOf → ℕ → List ℕ
word_at s i = text_at s.words i

abbrev pub start_at : SettingOf → ℕ → ℕ
start_at s i = place_at s.words i

-- the words of a part, and their tokens
abbrev pub words_of : SettingOf → Part → List Word
words_of s p = take (p.end - p.start) (drop p.start s.words)

abbrev pub tokens_of : SettingOf → Part → List Token
tokens_of s p = map (λ w. w.token) (words_of s p)

-- ---- names

-- words that are strategies by themselves, and never names
abbrev pub is_form : List ℕ → Bool
is_form w = bytes_eq w (codes "idle") || (bytes_eq w (codes "fail") || bytes_eq w (codes "all"))

abbrev pub has_name : List ℕ → StratDecl → Bool
has_name w d = bytes_eq d.name w

-- some strategy of this name is declared
abbrev pub is_declared : SettingOf → List ℕ → Bool
is_declared s w = list_any (has_name w) s.names

-- a declared strategy hides a label of its name
abbrev pub is_label : SettingOf → List ℕ → Bool
is_label s w = not (is_declared s w) && list_any (bytes_eq w) s.labels

-- neither
abbrev pub is_unknown : SettingOf → List ℕ → Bool
is_unknown s w = not (is_declared s w) && not (list_any (bytes_eq w) s.labels)

-- the first declaration of a name with so many arguments: each number of arguments is a strategy of its own
abbrev pub declared : SettingOf → List ℕ → ℕ → Option StratDecl
declared s w n = find (λ d. has_name w d && length d.args == n) s.names

-- the sorts of the arguments of a declared strategy are there
abbrev pub HasSorts : Hierarchy → StratDecl → Type 0
HasSorts h d = All (IsSort h) d.args
