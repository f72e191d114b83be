-- The tokens of a text are spans of it.
use Rattle.std.proofs.Common.{◌≡◌, true, ℕ, ◌+◌, ◌<◌, ◌≤◌, List, [], ◌∷◌, length, Result, Ok, Err, arith, IsUtf8}
use Rattle.std.specs.Prelude.{IfOk, All, AllPairs}
use Rattle.std.specs.Str.{IsCharBoundary}
use Rattle.std.proofs.lemmas.List.Elements.{All-nil, All-cons, All-weaker}
use Rattle.std.proofs.lemmas.List.Kept.{AllPairs-cons}
use Rattle.std.proofs.lemmas.Str.{IsCharBoundary-start}
use Rattle.mau_tokens.specs.declared.token.Token.{Token}
use Rattle.mau_tokens.specs.declared.token.TokenFault.{TokenFault}
use Rattle.mau_tokens.specs.Lexeme.{Lexeme, is_token}
use Rattle.mau_tokens.specs.Ending.{IsPiece}
use Rattle.mau_tokens.specs.TokensOf.{before, TokensFrom, text_ends, passes, takes, too_long, comment_open, string_open, TokensOf, not_utf8, utf8}
use Rattle.mau_tokens.specs.Laws.{TokensAreSpans}
use Rattle.mau_tokens.specs.Spans.{AreSpans}
use Rattle.mau_tokens.proofs.Boundaries.{piece_ends, least_size_some}

-- a piece of at most `limit` bytes, between characters
pub record IsSpan (limit : ℕ) (bs : List ℕ) (t : Token) : Type 0 where
  pub lexeme : Lexeme
  pub token : is_token lexeme ≡ true
  pub piece : IsPiece bs lexeme t.start t.end
  pub small : t.end ≤ t.start + limit
  pub starts : IsCharBoundary bs t.start
  pub ends : IsCharBoundary bs t.end

not_empty : (limit : ℕ) (bs : List ℕ) (t : Token) → IsSpan limit bs t → t.start < t.end
not_empty limit bs t span = omega (arith, span.piece.least, least_size_some span.lexeme)

-- each is a span, from i on, and no later one begins before it ends
record FromOn (limit : ℕ) (bs : List ℕ) (i : ℕ) (ts : List Token) : Type 0 where
  spans : All (IsSpan limit bs) ts
  behind : All (λ t. i ≤ t.start) ts
  ascending : AllPairs (λ t u. t.end ≤ u.start) ts

nothing_on : (limit : ℕ) (bs : List ℕ) (i : ℕ) → FromOn limit bs i []
nothing_on limit bs i = record {
  spans = All-nil (IsSpan limit bs);
  behind = All-nil (λ (t : Token). i ≤ t.start);
  ascending = λ j k d l h. absurd (omega arith);
}

later_on : (limit : ℕ) (bs : List ℕ) (i e : ℕ) (ts : List Token) → i ≤ e → FromOn limit bs e ts → FromOn limit bs i ts
later_on limit bs i e ts h on = record {
  spans = on.spans;
  behind = All-weaker (λ t. e ≤ t.start) (λ t. i ≤ t.start) (λ t l. omega arith) ts on.behind;
  ascending = on.ascending;
}

one_more_on : (limit : ℕ) (bs : List ℕ) (t : Token) (ts : List Token) → IsSpan limit bs t → FromOn limit bs t.end ts → FromOn limit bs t.start (t ∷ ts)
one_more_on limit bs t ts span on =
    record {
      spans = All-cons (IsSpan limit bs) t ts span on.spans;
      behind = All-cons (λ u. t.start ≤ u.start) t ts (omega arith) (All-weaker (λ u. t.end ≤ u.start) (λ u. t.start ≤ u.start) (λ u l. omega (arith, not_empty limit bs t span)) ts on.behind);
      ascending = AllPairs-cons (λ u v. u.end ≤ v.start) t ts on.behind on.ascending;
    }

with_one : (limit : ℕ) (bs : List ℕ) (t : Token) (r : Result (List Token) TokenFault) → IsSpan limit bs t → IfOk r (FromOn limit bs t.end) → IfOk (before t r) (FromOn limit bs t.start)
with_one limit bs t (Ok ts) span on = one_more_on limit bs t ts span on
with_one limit bs t (Err f) span on = tt

passed_on : (limit : ℕ) (bs : List ℕ) (i e : ℕ) (r : Result (List Token) TokenFault) → i ≤ e → IfOk r (FromOn limit bs e) → IfOk r (FromOn limit bs i)
passed_on limit bs i e (Ok ts) h on = later_on limit bs i e ts h on
passed_on limit bs i e (Err f) h on = tt

from_on : (limit : ℕ) (bs : List ℕ) (i : ℕ) (r : Result (List Token) TokenFault) → IsUtf8 bs → IsCharBoundary bs i → TokensFrom limit bs i r → IfOk r (FromOn limit bs i)
from_on limit bs i r u b (text_ends _ e) = nothing_on limit bs i
from_on limit bs i r u b (passes l _ e _ t piece rest) = passed_on limit bs i e r (omega (arith, piece.least)) (from_on limit bs e r u (piece_ends bs l i e u piece) rest)
from_on limit bs i r u b (takes l _ e q t piece short rest) =
    let ends = piece_ends bs l i e u piece in
    with_one limit bs (record { start = i; end = e }) q
    (record { lexeme = l; token = t; piece = piece; small = short; starts = b; ends = ends })
    (from_on limit bs e q u ends rest)
from_on limit bs i r u b (too_long l _ e t piece long) = tt
from_on limit bs i r u b (comment_open _ o) = tt
from_on limit bs i r u b (string_open _ o) = tt

-- the answer of a text with tokens
in_utf8 : (bs : List ℕ) (r : Result (List Token) TokenFault) → IsUtf8 bs → TokensFrom 1024 bs 0 r → IfOk r (λ ts. IsUtf8 bs × TokensFrom 1024 bs 0 (Ok ts))
in_utf8 bs (Ok ts) u from = (u, from)
in_utf8 bs (Err f) u from = tt

pub utf8_of : (bs : List ℕ) (r : Result (List Token) TokenFault) → TokensOf bs r → IfOk r (λ ts. IsUtf8 bs × TokensFrom 1024 bs 0 (Ok ts))
utf8_of bs r (not_utf8 at valid) = tt
utf8_of bs r (utf8 _ u from) = in_utf8 bs r u from

pub each_is_span : (bs : List ℕ) (ts : List Token) → IsUtf8 bs → TokensFrom 1024 bs 0 (Ok ts) → All (IsSpan 1024 bs) ts
each_is_span bs ts u from = (from_on 1024 bs 0 (Ok ts) u (IsCharBoundary-start bs u) from).spans

pub spans_of : (limit : ℕ) (bs : List ℕ) (ts : List Token) → IsUtf8 bs → TokensFrom limit bs 0 (Ok ts) → AreSpans bs ts
spans_of limit bs ts u from =
    let on = from_on limit bs 0 (Ok ts) u (IsCharBoundary-start bs u) from in
    record {
      not_empty = All-weaker (IsSpan limit bs) (λ t. t.start < t.end) (not_empty limit bs) ts on.spans;
      within = All-weaker (IsSpan limit bs) (λ t. t.end ≤ length bs) (λ t s. s.piece.within) ts on.spans;
      starts = All-weaker (IsSpan limit bs) (λ t. IsCharBoundary bs t.start) (λ t s. s.starts) ts on.spans;
      ends = All-weaker (IsSpan limit bs) (λ t. IsCharBoundary bs t.end) (λ t s. s.ends) ts on.spans;
      ascending = on.ascending;
    }

pub small_of : (limit : ℕ) (bs : List ℕ) (ts : List Token) → IsUtf8 bs → TokensFrom limit bs 0 (Ok ts) → All (λ t. t.end ≤ t.start + limit) ts
small_of limit bs ts u from =
    let on = from_on limit bs 0 (Ok ts) u (IsCharBoundary-start bs u) from in
    All-weaker (IsSpan limit bs) (λ t. t.end ≤ t.start + limit) (λ t s. s.small) ts on.spans

pub tokens_are_spans : TokensAreSpans
tokens_are_spans bs ts of =
    let known = utf8_of bs (Ok ts) of in
    (spans_of 1024 bs ts known.0 known.1, small_of 1024 bs ts known.0 known.1)
