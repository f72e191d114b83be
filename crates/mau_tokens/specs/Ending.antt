-- Where a piece of a text may end, and its first possible end.
use Rattle.std.specs.Prelude.{◌≡◌, ℕ, ◌+◌, ◌-◌, ◌≤◌, ◌<◌, List, length, take, drop, Bool, true, false, ◌&&◌, ◌||◌, not, ◌==◌, count_by}
use Rattle.std.specs.Str.{byte}
use Rattle.mau_tokens.specs.Lexeme.{Lexeme, separator, line_comment, block_comment, string, special, word, is_token, is_separator, is_special, byte_at, lexeme_at}

-- how many of the bytes from i to e are b
abbrev pub count_between : ℕ → List ℕ → ℕ → ℕ → ℕ
count_between b bs i e = count_by (λ c. c == b) (take (e - i) (drop i bs))

-- a word ends between these bytes: before a separator, and before a special character with no
-- backquote directly before it
abbrev pub parts_word : ℕ → ℕ → Bool
parts_word last next = is_separator next || (is_special next && not (last == byte "`"))

-- Whether a piece that begins at i may end just before e. A line comment ends before a line feed, a
-- block comment where as many parentheses are closed as were opened, a string behind a quote with
-- no backslash directly before it, and a word as above. The end of the text ends a line comment
-- and a word.
abbrev pub may_end : List ℕ → Lexeme → ℕ → ℕ → Bool
may_end bs separator i e = true
may_end bs special i e = true
may_end bs line_comment i e = e == length bs || byte_at bs e == 10
may_end bs block_comment i e =
    count_between (byte "(") bs (i + 3) e == count_between (byte ")") bs (i + 3) e
may_end bs string i e = byte_at bs (e - 1) == byte "\"" && not (byte_at bs (e - 2) == byte "\\")
may_end bs word i e = e == length bs || parts_word (byte_at bs (e - 1)) (byte_at bs e)

-- how many bytes a piece has at least: a comment its sign, a string its quotes
abbrev pub least_size : Lexeme → ℕ
least_size separator = 1
least_size line_comment = 3
least_size block_comment = 4
least_size string = 2
least_size special = 1
least_size word = 1

-- l begins at i, and e is its first possible end
pub record IsPiece (bs : List ℕ) (l : Lexeme) (i e : ℕ) : Type 0 where
  pub there : i < length bs
  pub begins : lexeme_at bs i ≡ l
  pub least : i + least_size l ≤ e
  pub within : e ≤ length bs
  pub ends : may_end bs l i e ≡ true
  pub first : (m : ℕ) → i + least_size l ≤ m → m < e → may_end bs l i m ≡ false

-- l begins at i, and has no end
pub record IsOpen (bs : List ℕ) (l : Lexeme) (i : ℕ) : Type 0 where
  pub there : i < length bs
  pub begins : lexeme_at bs i ≡ l
  pub never : (m : ℕ) → i + least_size l ≤ m → m ≤ length bs → may_end bs l i m ≡ false

-- a token of more than 1,024 bytes begins at i
pub record IsTooLong (bs : List ℕ) (i : ℕ) : Type 0 where
  pub lexeme : Lexeme
  pub end : ℕ
  pub token : is_token lexeme ≡ true
  pub piece : IsPiece bs lexeme i end
  pub long : i + 1024 < end
