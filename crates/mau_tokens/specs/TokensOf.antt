-- The tokens of a text, or its first fault.
use Rattle.std.specs.Prelude.{◌≡◌, ℕ, ◌+◌, ◌≤◌, ◌<◌, List, [], ◌∷◌, length, true, false, Result, Ok, Err}
use Rattle.std.specs.Str.{IsUtf8, IsValidUpTo}
use Rattle.mau_tokens.specs.declared.token.Token.{Token}
use Rattle.mau_tokens.specs.declared.token.TokenFault.{TokenFault}
use Rattle.mau_tokens.specs.declared.token.TokenFault.TheVariants.{NotUtf8, OpenComment, OpenString, TokenTooLong}
use Rattle.mau_tokens.specs.Lexeme.{Lexeme, block_comment, string, is_token}
use Rattle.mau_tokens.specs.Ending.{IsPiece, IsOpen}

-- tokens, or a fault
abbrev pub Answer : Type 0
Answer = Result (List Token) TokenFault

-- a token, and then those of the rest; a fault of the rest stays one
abbrev pub before : Token → Answer → Answer
before t (Ok ts) = Ok (t ∷ ts)
before t (Err f) = Err f

-- From i on, where no piece goes on, the text has these tokens of at most `limit` bytes, or this
-- first fault: each piece begins where the one before it ends.
pub data TokensFrom (limit : ℕ) (bs : List ℕ) : ℕ → Answer → Type 0 where
  text_ends : (i : ℕ) → i ≡ length bs → TokensFrom limit bs i (Ok [])
  passes : (l : Lexeme) (i e : ℕ) (r : Answer) → is_token l ≡ false → IsPiece bs l i e →
      TokensFrom limit bs e r → TokensFrom limit bs i r
  takes : (l : Lexeme) (i e : ℕ) (r : Answer) → is_token l ≡ true → IsPiece bs l i e → e ≤ i + limit →
      TokensFrom limit bs e r → TokensFrom limit bs i (before (record { start = i; end = e }) r)
  too_long : (l : Lexeme) (i e : ℕ) → is_token l ≡ true → IsPiece bs l i e → i + limit < e →
      TokensFrom limit bs i (Err (TokenTooLong i))
  comment_open : (i : ℕ) → IsOpen bs block_comment i → TokensFrom limit bs i (Err (OpenComment i))
  string_open : (i : ℕ) → IsOpen bs string i → TokensFrom limit bs i (Err (OpenString i))

-- The tokens of a text, each of at most 1,024 bytes, or its first fault. A text that is not UTF-8
-- has no other fault.
pub data TokensOf (bs : List ℕ) : Answer → Type 0 where
  not_utf8 : (at : ℕ) → IsValidUpTo bs at → TokensOf bs (Err (NotUtf8 at))
  utf8 : (r : Answer) → IsUtf8 bs → TokensFrom 1024 bs 0 r → TokensOf bs r
