-- The tokens of a text as a function; a law says that they are those of the definition.
use Rattle.std.specs.Prelude.{ℕ, zero, suc, ◌+◌, ◌-◌, List, [], length, Bool, true, false, if◌then◌else◌, nat_lt, nat_le, Option, Some, None, Ok, Err}
use Rattle.std.specs.Str.{is_utf8}
use Rattle.std.specs.Str.Lossy.{utf8_valid_len}
use Rattle.mau_tokens.specs.declared.token.TokenFault.{TokenFault}
use Rattle.mau_tokens.specs.declared.token.TokenFault.TheVariants.{NotUtf8, OpenComment, OpenString, TokenTooLong}
use Rattle.mau_tokens.specs.Lexeme.{Lexeme, separator, line_comment, block_comment, string, special, word, is_token, lexeme_at}
use Rattle.mau_tokens.specs.Ending.{may_end, least_size}
use Rattle.mau_tokens.specs.TokensOf.{Answer, before}

-- the least of n numbers from m on that passes a test
abbrev pub least_from : (ℕ → Bool) → ℕ → ℕ → Option ℕ
least_from test m zero = None
least_from test m (suc n) = if test m then Some m else least_from test (m + 1) n

-- the first possible end of a piece that begins at i
abbrev pub first_end : List ℕ → Lexeme → ℕ → Option ℕ
first_end bs l i =
    let least = i + least_size l in
    least_from (may_end bs l i) least (length bs + 1 - least)

-- the fault of a piece without an end, which is a block comment or a string
abbrev pub open_fault : Lexeme → ℕ → TokenFault
open_fault block_comment i = OpenComment i
open_fault separator i = OpenString i
open_fault line_comment i = OpenString i
open_fault string i = OpenString i
open_fault special i = OpenString i
open_fault word i = OpenString i

-- the answer at a piece from i to e: whether it is a token, and short enough; the rest's answer
abbrev pub with_piece : Bool → Bool → ℕ → ℕ → (ℕ → Answer) → Answer
with_piece false fits i e rest = rest e
with_piece true false i e rest = Err (TokenTooLong i)
with_piece true true i e rest = before (record { start = i; end = e }) (rest e)

-- the answer at a piece that begins at i, by its first end
abbrev pub with_end : ℕ → Lexeme → ℕ → Option ℕ → (ℕ → Answer) → Answer
with_end limit l i None rest = Err (open_fault l i)
with_end limit l i (Some e) rest = with_piece (is_token l) (nat_le e (i + limit)) i e rest

-- the answer from i on, with at most n pieces
abbrev pub tokens_from : ℕ → List ℕ → ℕ → ℕ → Answer
tokens_from limit bs zero i = Ok []
tokens_from limit bs (suc n) i =
    let l = lexeme_at bs i in
    if nat_lt i (length bs)
    then with_end limit l i (first_end bs l i) (λ e. tokens_from limit bs n e)
    else Ok []

-- the tokens of a text, or its first fault
abbrev pub tokens_of : List ℕ → Answer
tokens_of bs =
    if is_utf8 bs then tokens_from 1024 bs (length bs) 0 else Err (NotUtf8 (utf8_valid_len bs))
