-- What the pieces of a text are, and which of them begins at a place.
use Rattle.std.specs.Prelude.{ℕ, ◌+◌, List, [], ◌∷◌, slice_index, Bool, true, false, ◌&&◌, ◌||◌, ◌==◌, if◌then◌else◌, codes}
use Rattle.std.specs.List.{list_any}
use Rattle.std.specs.Str.{byte}

-- The pieces that a text is cut into. The last three are its tokens.
pub data Lexeme : Type 0 where
  separator : Lexeme
  line_comment : Lexeme
  block_comment : Lexeme
  string : Lexeme
  special : Lexeme
  word : Lexeme

abbrev pub is_token : Lexeme → Bool
is_token separator = false
is_token line_comment = false
is_token block_comment = false
is_token string = true
is_token special = true
is_token word = true

-- space, tab, carriage return, line feed or form feed
abbrev pub is_separator : ℕ → Bool
is_separator b = list_any (λ c. b == c) (32 ∷ 9 ∷ 13 ∷ 10 ∷ 12 ∷ [])

-- one of the seven characters that are tokens of their own
abbrev pub is_special : ℕ → Bool
is_special b = list_any (λ c. b == c) (codes "()[]{},")

-- the byte at a place, and 0 behind the end of the text
abbrev pub byte_at : List ℕ → ℕ → ℕ
byte_at bs i = slice_index bs i

-- *** or ---, with which a comment begins
abbrev pub is_comment_sign : ℕ → ℕ → ℕ → Bool
is_comment_sign a b c =
    (a == byte "*" && b == byte "*" && c == byte "*")
    || (a == byte "-" && b == byte "-" && c == byte "-")

-- the piece that begins with the bytes a b c d: a comment is a block where ( stands directly
-- behind its sign
abbrev pub lexeme_of : ℕ → ℕ → ℕ → ℕ → Lexeme
lexeme_of a b c d =
    if is_separator a then separator
    else if is_comment_sign a b c then (if d == byte "(" then block_comment else line_comment)
    else if a == byte "\"" then string
    else if is_special a then special
    else word

-- the piece that begins at i, where no earlier piece goes on there
abbrev pub lexeme_at : List ℕ → ℕ → Lexeme
lexeme_at bs i =
    lexeme_of (byte_at bs i) (byte_at bs (i + 1)) (byte_at bs (i + 2)) (byte_at bs (i + 3))
