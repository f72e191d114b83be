-- The laws of the tokens of a text, of any length.
use Rattle.std.specs.Prelude.{◌≡◌, ℕ, ◌+◌, ◌-◌, ◌≤◌, List, [], ◌∷◌, Ok, All, Contains, slice_range}
use Rattle.mau_tokens.specs.declared.token.Token.{Token}
use Rattle.mau_tokens.specs.TokensOf.{Answer, TokensOf}
use Rattle.mau_tokens.specs.Computed.{tokens_of}
use Rattle.mau_tokens.specs.Spans.{AreSpans}

-- every list of bytes has tokens or a first fault
abbrev pub EveryTextHasAnAnswer : Type 0
EveryTextHasAnAnswer = (bs : List ℕ) → (r : Answer) × TokensOf bs r

-- and not two answers
abbrev pub AnswersAreOne : Type 0
AnswersAreOne = (bs : List ℕ) (r q : Answer) → TokensOf bs r → TokensOf bs q → r ≡ q

-- the function computes this answer
abbrev pub AnswersAreComputed : Type 0
AnswersAreComputed = (bs : List ℕ) → TokensOf bs (tokens_of bs)

-- the tokens are spans of the text, each of at most 1,024 bytes
abbrev pub TokensAreSpans : Type 0
TokensAreSpans = (bs : List ℕ) (ts : List Token) → TokensOf bs (Ok ts) →
    AreSpans bs ts × All (λ t. t.end ≤ t.start + 1024) ts

-- the bytes of a token, and the one token that all of them are alone
abbrev pub text_of : List ℕ → Token → List ℕ
text_of bs t = slice_range bs t.start t.end

abbrev pub token_alone : Token → Token
token_alone t = record { start = 0; end = t.end - t.start }

-- the text of each token of a text, alone, is that one token
abbrev pub TokensStandAlone : Type 0
TokensStandAlone = (bs : List ℕ) (ts : List Token) (t : Token) → TokensOf bs (Ok ts) → Contains ts t →
    TokensOf (text_of bs t) (Ok (token_alone t ∷ []))
