-- The words of a text, and tests of them.
use Rattle.std.specs.Prelude.{ℕ, ◌==◌, List, [], ◌∷◌, map, Bool, false, slice_range}
use Rattle.std.specs.Str.{bytes_eq}
use Rattle.mau_tokens.specs.declared.token.Token.{Token}
use Rattle.mau_modtext.specs.Word.{Word}

abbrev pub word_of : List ℕ → Token → Word
word_of bs t = record { text = slice_range bs t.start t.end; token = t }

-- the words of these tokens of a text
abbrev pub words_of : List ℕ → List Token → List Word
words_of bs ts = map (word_of bs) ts

abbrev pub is_word : List ℕ → Word → Bool
is_word text w = bytes_eq w.text text

-- the place of its first byte
abbrev pub place : Word → ℕ
place w = w.token.start

abbrev pub tokens : List Word → List Token
tokens ws = map (λ w. w.token) ws

-- the text begins with a quote
abbrev pub begins_string : List ℕ → Bool
begins_string [] = false
begins_string (c ∷ cs) = c == 34

-- a string token
abbrev pub is_string : Word → Bool
is_string w = begins_string w.text
