-- Tokens that were found stand before those of the rest.
use Rattle.std.proofs.Common.{◌≡◌, ℕ, ◌+◌, ◌<◌, ◌≤◌, List, [], ◌∷◌, ◌++◌, length, Result, Ok, Err, refl, ap, subst}
use Rattle.mau_tokens.specs.declared.token.Token.{Token}
use Rattle.mau_tokens.specs.declared.token.TokenFault.{TokenFault}
use Rattle.mau_tokens.specs.declared.token.TokenFault.TheVariants.{TokenTooLong}
use Rattle.mau_tokens.specs.declared.scan.Piece.TheVariants.{Passed, Token as Taken}
use Rattle.mau_tokens.specs.Code.{EndsPiece}
use Rattle.mau_tokens.specs.TokensOf.{before, TokensFrom, text_ends, passes, takes, too_long}

abbrev pub behind : List Token → Result (List Token) TokenFault → Result (List Token) TokenFault
behind [] r = r
behind (t ∷ ts) r = before t (behind ts r)

behind-more : (ts : List Token) (t : Token) (r : Result (List Token) TokenFault) → behind ts (before t r) ≡ behind (ts ++ t ∷ []) r
behind-more [] t r = refl
behind-more (u ∷ ts) t r = ap (before u) (behind-more ts t r)

behind-Err : (ts : List Token) (f : TokenFault) → behind ts (Err f) ≡ Err f
behind-Err [] f = refl
behind-Err (t ∷ ts) f = ap (before t) (behind-Err ts f)

behind-Ok : (ts : List Token) → behind ts (Ok []) ≡ Ok ts
behind-Ok [] = refl
behind-Ok (t ∷ ts) = ap (before t) (behind-Ok ts)

-- what completes the rest from i on completes the text, behind the tokens that were found
abbrev pub Completes : ℕ → List ℕ → ℕ → List Token → Type 0
Completes limit bs i ts = (r : Result (List Token) TokenFault) → TokensFrom limit bs i r → TokensFrom limit bs 0 (behind ts r)

pub completes_fault : (limit : ℕ) (bs : List ℕ) (i : ℕ) (ts : List Token) (f : TokenFault) → Completes limit bs i ts → TokensFrom limit bs i (Err f) → TokensFrom limit bs 0 (Err f)
completes_fault limit bs i ts f done at = subst (TokensFrom limit bs 0) (behind-Err ts f) (done (Err f) at)

pub completes_passed : (limit : ℕ) (bs : List ℕ) (i e : ℕ) (ts : List Token) → Completes limit bs i ts → EndsPiece bs i (Passed e) → Completes limit bs e ts
completes_passed limit bs i e ts done (l, passed, piece) r rest = done r (passes l i e r passed piece rest)

pub completes_taken : (limit : ℕ) (bs : List ℕ) (i e : ℕ) (ts : List Token) → Completes limit bs i ts → EndsPiece bs i (Taken e) → e ≤ i + limit → Completes limit bs e (ts ++ record { start = i; end = e } ∷ [])
completes_taken limit bs i e ts done (l, taken, piece) short r rest =
    subst (TokensFrom limit bs 0) (behind-more ts (record { start = i; end = e }) r) (done _ (takes l i e r taken piece short rest))

pub completes_too_long : (limit : ℕ) (bs : List ℕ) (i e : ℕ) (ts : List Token) → Completes limit bs i ts → EndsPiece bs i (Taken e) → i + limit < e → TokensFrom limit bs 0 (Err (TokenTooLong i))
completes_too_long limit bs i e ts done (l, taken, piece) long = completes_fault limit bs i ts (TokenTooLong i) done (too_long l i e taken piece long)

pub completes_text : (limit : ℕ) (bs : List ℕ) (i : ℕ) (ts : List Token) → i ≡ length bs → Completes limit bs i ts → TokensFrom limit bs 0 (Ok ts)
completes_text limit bs i ts end done = subst (TokensFrom limit bs 0) (behind-Ok ts) (done (Ok []) (text_ends i end))

-- where a piece ends
pub ends_within : (bs : List ℕ) (i e : ℕ) → EndsPiece bs i (Passed e) → e ≤ length bs
ends_within bs i e (l, passed, piece) = piece.within

pub taken_within : (bs : List ℕ) (i e : ℕ) → EndsPiece bs i (Taken e) → e ≤ length bs
taken_within bs i e (l, taken, piece) = piece.within
