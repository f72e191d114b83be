-- What the scan's own types stand for.
use Rattle.std.specs.Prelude.{◌≡◌, ℕ, List, true, false}
use Rattle.mau_tokens.specs.declared.scan.Begins.{Begins}
use Rattle.mau_tokens.specs.declared.scan.Begins.TheVariants.{Separator, LineComment, BlockComment, String, Special, Word}
use Rattle.mau_tokens.specs.declared.scan.Piece.{Piece}
use Rattle.mau_tokens.specs.declared.scan.Piece.TheVariants.{Passed, Token}
use Rattle.mau_tokens.specs.Ending.{IsPiece}
use Rattle.mau_tokens.specs.Lexeme.{Lexeme, is_token, separator, line_comment, block_comment, string, special, word}

abbrev pub lexeme : Begins → Lexeme
lexeme Separator = separator
lexeme LineComment = line_comment
lexeme BlockComment = block_comment
lexeme String = string
lexeme Special = special
lexeme Word = word

-- a piece that begins at i ends there, and is a token or not
abbrev pub EndsPiece : List ℕ → ℕ → Piece → Type 0
EndsPiece bs i (Passed e) = (l : Lexeme) × (is_token l ≡ false) × IsPiece bs l i e
EndsPiece bs i (Token e) = (l : Lexeme) × (is_token l ≡ true) × IsPiece bs l i e
