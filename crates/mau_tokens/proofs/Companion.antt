-- The function that computes tokens gives those of the definition, and these alone.
use Rattle.std.proofs.Common.{◌≡◌, ℕ, zero, suc, ◌+◌, ◌-◌, ◌<◌, ◌≤◌, List, [], length, Bool, true, false, cond, nat_le, Option, Some, None, Result, Ok, Err, ⊎_elim, refl, sym, ◌∙◌, ap, subst, arith}
use Rattle.std.proofs.lemmas.Bool.{cases_lt, both_ways, false≢true, eq-eqb, or_left, lt-ltb, le-ltb, le-leb, lt-leb, leb-true, leb-false}
use Rattle.std.proofs.lemmas.Grind.{common_steps}
use Rattle.mau_tokens.specs.declared.token.Token.{Token}
use Rattle.mau_tokens.specs.declared.token.TokenFault.{TokenFault}
use Rattle.mau_tokens.specs.Lexeme.{Lexeme, separator, line_comment, block_comment, string, special, word, is_token, lexeme_at}
use Rattle.mau_tokens.specs.Ending.{may_end, least_size, IsPiece, IsOpen}
use Rattle.mau_tokens.specs.TokensOf.{before, TokensFrom, text_ends, passes, takes, too_long, comment_open, string_open}
use Rattle.mau_tokens.specs.Computed.{least_from, first_end, open_fault, with_piece, with_end, tokens_from}
use Rattle.mau_tokens.proofs.Boundaries.{least_size_some}

-- e is the least number from m on, of n, that passes a test
record IsLeast (test : ℕ → Bool) (m n e : ℕ) : Type 0 where
  low : m ≤ e
  high : e < m + n
  passes_there : test e ≡ true
  first : (k : ℕ) → m ≤ k → k < e → test k ≡ false

abbrev Least : (ℕ → Bool) → ℕ → ℕ → Option ℕ → Type 0
Least test m n None = (k : ℕ) → m ≤ k → k < m + n → test k ≡ false
Least test m n (Some e) = IsLeast test m n e

-- what holds at m and above
from_there : (P : ℕ → Type 0) (m k : ℕ) → P m → (m + 1 ≤ k → P k) → m ≤ k → P k
from_there P m k here above l =
    ⊎_elim
    (λ (more : m < k). above (omega arith))
    (λ (same : k ≤ m). let is : m ≡ k = omega arith in subst P is here)
    (cases_lt m k)

one_lower : (test : ℕ → Bool) (m n : ℕ) (o : Option ℕ) → test m ≡ false → Least test (m + 1) n o → Least test m (suc n) o
one_lower test m n None here h = λ k l u. from_there (λ j. test j ≡ false) m k here (λ above. h k above (omega arith)) l
one_lower test m n (Some e) here h = record {
  low = omega (arith, h.low);
  high = omega (arith, h.high);
  passes_there = h.passes_there;
  first = λ k l u. from_there (λ j. test j ≡ false) m k here (λ above. h.first k above u) l;
}

least_step : (test : ℕ → Bool) (m n : ℕ) (o : Option ℕ) (b : Bool) → test m ≡ b → Least test (m + 1) n o → Least test m (suc n) (cond b (Some m) o)
least_step test m n o true e h = record { low = omega arith; high = omega arith; passes_there = e; first = λ k l u. absurd (omega arith) }
least_step test m n o false e h = one_lower test m n o e h

least_is : (test : ℕ → Bool) (m n : ℕ) → Least test m n (least_from test m n)
least_is test m zero = λ k l u. absurd (omega arith)
least_is test m (suc n) = least_step test m n (least_from test (m + 1) n) (test m) refl (least_is test (m + 1) n)

-- there is one least number
least_one : (test : ℕ → Bool) (m n e d : ℕ) → IsLeast test m n e → IsLeast test m n d → e ≡ d
least_one test m n e d a b =
    ⊎_elim
    (λ (less : e < d). absurd (both_ways _ (b.first e a.low less) a.passes_there))
    (λ (most : d ≤ e).
    ⊎_elim
    (λ (more : d < e). absurd (both_ways _ (a.first d b.low more) b.passes_there))
    (λ (same : e ≤ d). omega arith)
    (cases_lt d e))
    (cases_lt e d)

least_known : (test : ℕ → Bool) (m n e : ℕ) (o : Option ℕ) → IsLeast test m n e → Least test m n o → o ≡ Some e
least_known test m n e None a h = absurd (both_ways _ (h e a.low a.high) a.passes_there)
least_known test m n e (Some d) a h = ap Some (least_one test m n d e h a)

least_unknown : (test : ℕ → Bool) (m n : ℕ) (o : Option ℕ) → ((k : ℕ) → m ≤ k → k < m + n → test k ≡ false) → Least test m n o → o ≡ None
least_unknown test m n None none h = refl
least_unknown test m n (Some d) none h = absurd (both_ways _ (none d h.low h.high) h.passes_there)

-- the first end of a piece, as the function finds it
piece_end : (bs : List ℕ) (l : Lexeme) (i e : ℕ) → IsPiece bs l i e → first_end bs l i ≡ Some e
piece_end bs l i e piece =
    least_known (may_end bs l i) (i + least_size l) (length bs + 1 - (i + least_size l)) e (first_end bs l i)
    (record { low = piece.least; high = omega (arith, piece.within, piece.least); passes_there = piece.ends; first = piece.first })
    (least_is (may_end bs l i) (i + least_size l) (length bs + 1 - (i + least_size l)))

no_end : (bs : List ℕ) (l : Lexeme) (i : ℕ) → IsOpen bs l i → first_end bs l i ≡ None
no_end bs l i never =
    least_unknown (may_end bs l i) (i + least_size l) (length bs + 1 - (i + least_size l)) (first_end bs l i)
    (λ k low high. never.never k low (omega arith))
    (least_is (may_end bs l i) (i + least_size l) (length bs + 1 - (i + least_size l)))

-- one step of the function
step_in : (limit : ℕ) (bs : List ℕ) (n i : ℕ) → i < length bs → tokens_from limit bs (suc n) i ≡ with_end limit (lexeme_at bs i) i (first_end bs (lexeme_at bs i) i) (λ e. tokens_from limit bs n e)
step_in limit bs n i h =
    ap (λ b. cond b (with_end limit (lexeme_at bs i) i (first_end bs (lexeme_at bs i) i) (λ e. tokens_from limit bs n e)) (Ok []))
    (lt-ltb i (length bs) h)

step_out : (limit : ℕ) (bs : List ℕ) (n i : ℕ) → length bs ≤ i → tokens_from limit bs n i ≡ Ok []
step_out limit bs zero i h = refl
step_out limit bs (suc n) i h =
    ap (λ b. cond b (with_end limit (lexeme_at bs i) i (first_end bs (lexeme_at bs i) i) (λ e. tokens_from limit bs n e)) (Ok []))
    (le-ltb i (length bs) h)

-- at a piece, and at an open one
at_piece : (limit : ℕ) (bs : List ℕ) (n i e : ℕ) (l : Lexeme) → IsPiece bs l i e → tokens_from limit bs (suc n) i ≡ with_piece (is_token l) (nat_le e (i + limit)) i e (λ d. tokens_from limit bs n d)
at_piece limit bs n i e l piece = step_in limit bs n i piece.there ∙ ap (λ k. with_end limit k i (first_end bs k i) (λ d. tokens_from limit bs n d)) piece.begins ∙ ap (λ o. with_end limit l i o (λ d. tokens_from limit bs n d)) (piece_end bs l i e piece)

at_open : (limit : ℕ) (bs : List ℕ) (n i : ℕ) (l : Lexeme) → IsOpen bs l i → tokens_from limit bs (suc n) i ≡ Err (open_fault l i)
at_open limit bs n i l never = step_in limit bs n i never.there ∙ ap (λ k. with_end limit k i (first_end bs k i) (λ d. tokens_from limit bs n d)) never.begins ∙ ap (λ o. with_end limit l i o (λ d. tokens_from limit bs n d)) (no_end bs l i never)

-- the definition's answer is that of the function, given a step for each byte that is left
pub computed : (limit : ℕ) (bs : List ℕ) (n i : ℕ) (r : Result (List Token) TokenFault) → TokensFrom limit bs i r → length bs ≤ n + i → r ≡ tokens_from limit bs n i
computed limit bs n i r (text_ends _ e) h = sym (step_out limit bs n i (omega (arith, e)))
computed limit bs zero i r (passes l _ e _ t piece rest) h = absurd (omega (arith, h, piece.there))
computed limit bs zero i r (takes l _ e q t piece short rest) h = absurd (omega (arith, h, piece.there))
computed limit bs zero i r (too_long l _ e t piece long) h = absurd (omega (arith, h, piece.there))
computed limit bs zero i r (comment_open _ never) h = absurd (omega (arith, h, never.there))
computed limit bs zero i r (string_open _ never) h = absurd (omega (arith, h, never.there))
computed limit bs (suc n) i r (passes l _ e _ t piece rest) h =
    computed limit bs n e r rest (omega (arith, h, piece.least, least_size_some l))
    ∙ sym (at_piece limit bs n i e l piece ∙ ap (λ b. with_piece b (nat_le e (i + limit)) i e (λ d. tokens_from limit bs n d)) t)
computed limit bs (suc n) i r (takes l _ e q t piece short rest) h =
    ap (before (record { start = i; end = e })) (computed limit bs n e q rest (omega (arith, h, piece.least, least_size_some l)))
    ∙ sym (at_piece limit bs n i e l piece ∙ ap (λ b. with_piece b (nat_le e (i + limit)) i e (λ d. tokens_from limit bs n d)) t ∙ ap (λ b. with_piece true b i e (λ d. tokens_from limit bs n d)) (le-leb e (i + limit) short))
computed limit bs (suc n) i r (too_long l _ e t piece long) h =
    sym (at_piece limit bs n i e l piece ∙ ap (λ b. with_piece b (nat_le e (i + limit)) i e (λ d. tokens_from limit bs n d)) t ∙ ap (λ b. with_piece true b i e (λ d. tokens_from limit bs n d)) (lt-leb e (i + limit) long))
computed limit bs (suc n) i r (comment_open _ never) h = sym (at_open limit bs n i block_comment never)
computed limit bs (suc n) i r (string_open _ never) h = sym (at_open limit bs n i string never)

sign_within : (bs : List ℕ) (i : ℕ) → lexeme_at bs i ≡ line_comment → i < length bs → i + 3 ≤ length bs
sign_within bs i e h = grind (arith, common_steps)

-- what has no end is a block comment or a string
open_from : (limit : ℕ) (bs : List ℕ) (l : Lexeme) (i : ℕ) → IsOpen bs l i → TokensFrom limit bs i (Err (open_fault l i))
open_from limit bs separator i never = absurd (false≢true (sym (never.never (i + 1) (omega arith) (omega (arith, never.there)))))
open_from limit bs special i never = absurd (false≢true (sym (never.never (i + 1) (omega arith) (omega (arith, never.there)))))
open_from limit bs line_comment i never = absurd (both_ways _ (never.never (length bs) (sign_within bs i never.begins never.there) (omega arith)) (or_left _ _ (eq-eqb (length bs) (length bs) refl)))
open_from limit bs word i never = absurd (both_ways _ (never.never (length bs) (omega (arith, never.there)) (omega arith)) (or_left _ _ (eq-eqb (length bs) (length bs) refl)))
open_from limit bs block_comment i never = comment_open i never
open_from limit bs string i never = string_open i never

piece_from : (limit : ℕ) (bs : List ℕ) (l : Lexeme) (i e : ℕ) (rest : ℕ → Result (List Token) TokenFault) (b fits : Bool) → IsPiece bs l i e → is_token l ≡ b → nat_le e (i + limit) ≡ fits → TokensFrom limit bs e (rest e) → TokensFrom limit bs i (with_piece b fits i e rest)
piece_from limit bs l i e rest false fits piece t f from = passes l i e (rest e) t piece from
piece_from limit bs l i e rest true true piece t f from = takes l i e (rest e) t piece (leb-true e (i + limit) f) from
piece_from limit bs l i e rest true false piece t f from = too_long l i e t piece (leb-false e (i + limit) f)

end_from : (limit : ℕ) (bs : List ℕ) (i : ℕ) (o : Option ℕ) (rest : ℕ → Result (List Token) TokenFault) → i < length bs → let l = lexeme_at bs i in Least (may_end bs l i) (i + least_size l) (length bs + 1 - (i + least_size l)) o → ((e : ℕ) → i + 1 ≤ e → e ≤ length bs → TokensFrom limit bs e (rest e)) → TokensFrom limit bs i (with_end limit l i o rest)
end_from limit bs i None rest there none from = open_from limit bs (lexeme_at bs i) i (record { there = there; begins = refl; never = λ m l h. none m l (omega arith) })
end_from limit bs i (Some e) rest there least from =
    let l = lexeme_at bs i in
    let within : e ≤ length bs = omega (arith, least.low, least.high) in
    let piece : IsPiece bs l i e = record { there = there; begins = refl; least = least.low; within = within; ends = least.passes_there; first = least.first } in
    piece_from limit bs l i e rest (is_token l) (nat_le e (i + limit)) piece refl refl (from e (omega (arith, least.low, least_size_some l)) within)

-- the function's answer is one of the definition
pub computes : (limit : ℕ) (bs : List ℕ) (n i : ℕ) → length bs ≤ n + i → i ≤ length bs → TokensFrom limit bs i (tokens_from limit bs n i)
computes limit bs zero i h l = text_ends i (omega arith)
computes limit bs (suc n) i h l =
    ⊎_elim
    (λ (more : i < length bs).
    subst (TokensFrom limit bs i) (sym (step_in limit bs n i more))
    (end_from limit bs i (first_end bs (lexeme_at bs i) i) (λ e. tokens_from limit bs n e) more
    (least_is (may_end bs (lexeme_at bs i) i) (i + least_size (lexeme_at bs i)) (length bs + 1 - (i + least_size (lexeme_at bs i))))
    (λ e above within. computes limit bs n e (omega (arith, h, above)) within)))
    (λ (end : length bs ≤ i). subst (TokensFrom limit bs i) (sym (step_out limit bs (suc n) i end)) (text_ends i (omega arith)))
    (cases_lt i (length bs))
