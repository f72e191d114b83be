-- A token's own text, alone, is that one token.
use Rattle.std.proofs.Common.{◌≡◌, ℕ, ◌+◌, ◌-◌, ◌<◌, ◌≤◌, List, [], ◌∷◌, length, drop, Bool, true, false, cond, if◌then◌else◌, ◌==◌, ◌||◌, ◌&&◌, not, Ok, ◌⊎◌, inl, inr, ⊎_elim, IsUtf8, refl, sym, ◌∙◌, ap, ap₂, arith}
use Rattle.std.specs.Prelude.{slice_range}
use Rattle.std.proofs.lemmas.Bool.{cases_lt, false≢true, both_ways, false_from_ne_true, eqb-true, eq-eqb, ne_eqb, and_parts, and_from, or_cases, or_left, or_right}
use Rattle.std.proofs.lemmas.Grind.{common_steps}
use Rattle.std.proofs.lemmas.List.{get_or-take, get_or-drop, get_or_past}
use Rattle.std.proofs.lemmas.List.Elements.{All-contains}
use Rattle.std.proofs.lemmas.Str.{IsUtf8-between}
use Rattle.mau_tokens.specs.declared.token.Token.{Token}
use Rattle.mau_tokens.specs.Lexeme.{Lexeme, separator, line_comment, block_comment, string, special, word, is_token, is_separator, is_special, is_comment_sign, byte_at, lexeme_of, lexeme_at}
use Rattle.mau_tokens.specs.Ending.{may_end, parts_word, least_size, IsPiece}
use Rattle.mau_tokens.specs.TokensOf.{text_ends, takes, TokensOf, utf8}
use Rattle.mau_tokens.specs.Laws.{TokensStandAlone, text_of}
use Rattle.mau_tokens.proofs.Boundaries.{least_size_some}
use Rattle.mau_tokens.proofs.SpansLemmas.{IsSpan, each_is_span, utf8_of}

-- the bytes of a slice
length-slice : (bs : List ℕ) (i e : ℕ) → e ≤ length bs → length (slice_range bs i e) ≡ e - i
length-slice bs i e h = grind (arith, common_steps)

byte-slice : (bs : List ℕ) (i e k : ℕ) → e ≤ length bs → k < e - i → byte_at (slice_range bs i e) k ≡ byte_at bs (i + k)
byte-slice bs i e k h l = get_or-take (e - i) (drop i bs) k 0 l ∙ get_or-drop i bs k 0

-- a byte that is the same or 0
abbrev Same : ℕ → ℕ → Type 0
Same b c = (b ≡ c) ⊎ (b ≡ 0)

byte_same : (bs : List ℕ) (i e k : ℕ) → e ≤ length bs → i ≤ e → Same (byte_at (slice_range bs i e) k) (byte_at bs (i + k))
byte_same bs i e k h l =
    ⊎_elim
    (λ (within : k < e - i). inl (byte-slice bs i e k h within))
    (λ (past : e - i ≤ k). inr (get_or_past (slice_range bs i e) k 0 (omega (arith, length-slice bs i e h))))
    (cases_lt k (e - i))

same_byte : (x b' b : ℕ) → 0 < x → Same b' b → b' ≡ x → b ≡ x
same_byte x b' b some (inl e) h = sym e ∙ h
same_byte x b' b some (inr e) h = absurd (omega (arith, e, h, some))

three_same : (x a b c b' c' : ℕ) → 0 < x → Same b' b → Same c' c → (a == x && b' == x && c' == x) ≡ true → (a == x && b == x && c == x) ≡ true
three_same x a b c b' c' some sb sc e =
    let two = and_parts (a == x && b' == x) (c' == x) e in
    let one = and_parts (a == x) (b' == x) two.0 in
    and_from _ _ (and_from _ _ one.0 (eq-eqb b x (same_byte x b' b some sb (eqb-true b' x one.1)))) (eq-eqb c x (same_byte x c' c some sc (eqb-true c' x two.1)))

sign_same : (a b c b' c' : ℕ) → Same b' b → Same c' c → is_comment_sign a b' c' ≡ true → is_comment_sign a b c ≡ true
sign_same a b c b' c' sb sc e =
    ⊎_elim
    (λ stars. or_left _ _ (three_same 42 a b c b' c' (omega arith) sb sc stars))
    (λ hyphens. or_right _ _ (three_same 45 a b c b' c' (omega arith) sb sc hyphens))
    (or_cases (a == 42 && b' == 42 && c' == 42) _ e)

-- a token begins with no comment sign
no_sign : (gap sign block : Bool) (rest : Lexeme) → is_token (cond gap separator (cond sign (cond block block_comment line_comment) rest)) ≡ true → sign ≡ false
no_sign true sign block rest e = absurd (false≢true e)
no_sign false true true rest e = absurd (false≢true e)
no_sign false true false rest e = absurd (false≢true e)
no_sign false false block rest e = refl

-- what begins with a byte where no comment sign stands
abbrev by_sign : ℕ → Bool → ℕ → Lexeme
by_sign a sign d =
    if is_separator a then separator
    else if sign then (if d == 40 then block_comment else line_comment)
    else if a == 34 then string
    else if is_special a then special
    else word

lexeme_same : (a b c d b' c' d' : ℕ) → Same b' b → Same c' c → is_token (lexeme_of a b c d) ≡ true → lexeme_of a b' c' d' ≡ lexeme_of a b c d
lexeme_same a b c d b' c' d' sb sc t =
    let none : is_comment_sign a b c ≡ false = no_sign (is_separator a) (is_comment_sign a b c) (d == 40) _ t in
    let none' : is_comment_sign a b' c' ≡ false = false_from_ne_true _ (λ e. both_ways _ none (sign_same a b c b' c' sb sc e)) in
    ap (λ s. by_sign a s d') none' ∙ sym (ap (λ s. by_sign a s d) none)

begins_alone : (bs : List ℕ) (l : Lexeme) (i e : ℕ) → is_token l ≡ true → IsPiece bs l i e → lexeme_at (slice_range bs i e) 0 ≡ l
begins_alone bs l i e t piece =
    let within : i < e = omega (arith, piece.least, least_size_some l) in
    let first : byte_at (slice_range bs i e) 0 ≡ byte_at bs i = byte-slice bs i e 0 piece.within (omega arith) ∙ (let same : i + 0 ≡ i = omega arith in ap (byte_at bs) same) in
    ap (λ a. lexeme_of a (byte_at (slice_range bs i e) 1) (byte_at (slice_range bs i e) 2) (byte_at (slice_range bs i e) 3)) first
    ∙ lexeme_same (byte_at bs i) (byte_at bs (i + 1)) (byte_at bs (i + 2)) (byte_at bs (i + 3)) _ _ _
    (byte_same bs i e 1 piece.within (omega arith)) (byte_same bs i e 2 piece.within (omega arith))
    (ap is_token piece.begins ∙ t)
    ∙ piece.begins

-- a byte some places back
byte_back : (bs : List ℕ) (i e m k : ℕ) → e ≤ length bs → k ≤ m → 1 ≤ k → i + m ≤ e → byte_at (slice_range bs i e) (m - k) ≡ byte_at bs (i + m - k)
byte_back bs i e m k h low some high = byte-slice bs i e (m - k) h (omega arith) ∙ (let same : i + (m - k) ≡ i + m - k = omega arith in ap (byte_at bs) same)

-- where it ends
ends_alone : (bs : List ℕ) (l : Lexeme) (i e m : ℕ) → is_token l ≡ true → IsPiece bs l i e → least_size l ≤ m → i + m < e → may_end (slice_range bs i e) l 0 m ≡ may_end bs l i (i + m)
ends_alone bs separator i e m t piece low high = refl
ends_alone bs special i e m t piece low high = refl
ends_alone bs line_comment i e m t piece low high = absurd (false≢true t)
ends_alone bs block_comment i e m t piece low high = absurd (false≢true t)
ends_alone bs string i e m t piece low high =
    ap₂ (λ a b. a == 34 && not (b == 92)) (byte_back bs i e m 1 piece.within (omega arith) (omega arith) (omega arith)) (byte_back bs i e m 2 piece.within low (omega arith) (omega arith))
ends_alone bs word i e m t piece low high =
    let size = length-slice bs i e piece.within in
    ap₂ (λ x y. x || y)
    (ne_eqb m (length (slice_range bs i e)) (λ end. absurd (omega (arith, end, size))) ∙ sym (ne_eqb (i + m) (length bs) (λ end. absurd (omega (arith, end, piece.within)))))
    (ap₂ parts_word (byte_back bs i e m 1 piece.within low (omega arith) (omega arith)) (byte-slice bs i e m piece.within (omega arith)))

ends_last : (bs : List ℕ) (l : Lexeme) (i e : ℕ) → is_token l ≡ true → IsPiece bs l i e → may_end (slice_range bs i e) l 0 (e - i) ≡ true
ends_last bs separator i e t piece = refl
ends_last bs special i e t piece = refl
ends_last bs line_comment i e t piece = absurd (false≢true t)
ends_last bs block_comment i e t piece = absurd (false≢true t)
ends_last bs string i e t piece =
    let same : i + (e - i) ≡ e = omega (arith, piece.least) in
    let last = byte_back bs i e (e - i) 1 piece.within (omega (arith, piece.least)) (omega arith) (omega (arith, piece.least)) in
    let former = byte_back bs i e (e - i) 2 piece.within (omega (arith, piece.least)) (omega arith) (omega (arith, piece.least)) in
    ap₂ (λ a b. a == 34 && not (b == 92)) last former ∙ ap (λ n. byte_at bs (n - 1) == 34 && not (byte_at bs (n - 2) == 92)) same ∙ piece.ends
ends_last bs word i e t piece = or_left _ _ (eq-eqb (e - i) _ (sym (length-slice bs i e piece.within)))

piece_alone : (bs : List ℕ) (l : Lexeme) (i e : ℕ) → is_token l ≡ true → IsPiece bs l i e → IsPiece (slice_range bs i e) l 0 (e - i)
piece_alone bs l i e t piece = record {
  there = omega (arith, length-slice bs i e piece.within, piece.least, least_size_some l);
  begins = begins_alone bs l i e t piece;
  least = omega (arith, piece.least);
  within = omega (arith, length-slice bs i e piece.within);
  ends = ends_last bs l i e t piece;
  first = λ m low high. ends_alone bs l i e m t piece (omega arith) (omega arith) ∙ piece.first (i + m) (omega arith) (omega arith);
}

alone : (bs : List ℕ) (t : Token) → IsUtf8 bs → IsSpan 1024 bs t → TokensOf (text_of bs t) (Ok (record { start = 0; end = t.end - t.start } ∷ []))
alone bs t u span =
    let i = t.start in
    let e = t.end in
    let size = length-slice bs i e span.piece.within in
    utf8 _ (IsUtf8-between bs i e u (omega (arith, span.piece.least)) span.starts span.ends)
    (takes span.lexeme 0 (e - i) (Ok []) span.token (piece_alone bs span.lexeme i e span.token span.piece) (omega (arith, span.small)) (text_ends (e - i) (sym size)))

pub tokens_stand_alone : TokensStandAlone
tokens_stand_alone bs ts t of among =
    let known = utf8_of bs (Ok ts) of in
    alone bs t known.0 (All-contains (IsSpan 1024 bs) ts t (each_is_span bs ts known.0 known.1) among)
