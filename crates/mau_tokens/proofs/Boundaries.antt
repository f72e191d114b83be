-- Pieces begin and end between the characters of a text.
use Rattle.std.proofs.Common.{◌≡◌, ℕ, ◌+◌, ◌-◌, ◌<◌, ◌≤◌, List, length, Bool, true, false, ◌||◌, ◌==◌, ⊎_elim, refl, sym, subst, arith, IsUtf8}
use Rattle.std.proofs.lemmas.Bool.{cases_lt, both_ways, eqb-true, and_parts, or_cases}
use Rattle.std.proofs.lemmas.Grind.{common_steps}
use Rattle.std.proofs.lemmas.Str.{IsCharBoundary-end, IsCharBoundary-before_ascii, IsCharBoundary-after_ascii}
use Rattle.std.specs.Str.{IsCharBoundary}
use Rattle.mau_tokens.specs.Lexeme.{Lexeme, separator, line_comment, block_comment, string, special, word, is_separator, is_special, byte_at, lexeme_at}
use Rattle.mau_tokens.specs.Ending.{IsPiece, may_end, parts_word, count_between, least_size}
use Rattle.mau_tokens.proofs.Counting.{count_between-no}
use Rattle.mau_tokens.proofs.Depth.{begins_deep}

ascii_separator : (b : ℕ) → is_separator b ≡ true → b < 128
ascii_separator b e = grind (arith, common_steps)

ascii_special : (b : ℕ) → is_special b ≡ true → b < 128
ascii_special b e = grind (arith, common_steps)

ascii_parting : (last next : ℕ) → parts_word last next ≡ true → next < 128
ascii_parting last next e =
    ⊎_elim
    (λ (gap : is_separator next ≡ true). ascii_separator next gap)
    (λ rest. ascii_special next (and_parts (is_special next) _ rest).0)
    (or_cases (is_separator next) _ e)

begins_separator : (bs : List ℕ) (i : ℕ) → lexeme_at bs i ≡ separator → is_separator (byte_at bs i) ≡ true
begins_separator bs i e = grind (arith, common_steps)

begins_special : (bs : List ℕ) (i : ℕ) → lexeme_at bs i ≡ special → is_special (byte_at bs i) ≡ true
begins_special bs i e = grind (arith, common_steps)

-- behind an ASCII byte
behind_ascii : (bs : List ℕ) (i e : ℕ) → IsUtf8 bs → i + 1 ≤ e → e ≤ length bs → byte_at bs (e - 1) < 128 → IsCharBoundary bs e
behind_ascii bs i e u l h a =
    let same : e - 1 + 1 ≡ e = omega arith in
    subst (IsCharBoundary bs) same (IsCharBoundary-after_ascii bs (e - 1) u (omega arith) a)

-- a piece that may end anywhere has one byte
one_byte : (bs : List ℕ) (l : Lexeme) (i e : ℕ) → IsPiece bs l i e → least_size l ≡ 1 → may_end bs l i (i + 1) ≡ true → e ≡ i + 1
one_byte bs l i e piece one ends =
    ⊎_elim
    (λ (less : i + 1 < e). absurd (both_ways _ (piece.first (i + 1) (omega (arith, one)) less) ends))
    (λ (most : e ≤ i + 1). omega (arith, piece.least, one))
    (cases_lt (i + 1) e)

-- the byte with which a block comment ends is a parenthesis
closing : (bs : List ℕ) (i e : ℕ) → IsPiece bs block_comment i e → byte_at bs (e - 1) < 128
closing bs i e piece =
    let last = byte_at bs (e - 1) in
    let deep = begins_deep bs i piece.begins in
    ⊎_elim
    (λ (far : i + 4 < e).
    ⊎_elim
    (λ (ascii : last < 128). ascii)
    (λ (other : 128 ≤ last).
    let same : e - 1 + 1 ≡ e = omega arith in
    let opened = subst (λ n. count_between 40 bs (i + 3) n ≡ count_between 40 bs (i + 3) (e - 1)) same (count_between-no 40 bs (i + 3) (e - 1) (omega arith) (omega (arith, piece.within)) (grind (arith, common_steps))) in
    let closed = subst (λ n. count_between 41 bs (i + 3) n ≡ count_between 41 bs (i + 3) (e - 1)) same (count_between-no 41 bs (i + 3) (e - 1) (omega arith) (omega (arith, piece.within)) (grind (arith, common_steps))) in
    let before : may_end bs block_comment i (e - 1) ≡ true = subst (λ n. (n == count_between 41 bs (i + 3) (e - 1)) ≡ true) opened (subst (λ n. (count_between 40 bs (i + 3) e == n) ≡ true) closed piece.ends) in
    absurd (both_ways _ (piece.first (e - 1) (omega arith) (omega arith)) before))
    (cases_lt last 128))
    (λ (near : e ≤ i + 4).
    let same : i + 4 ≡ e = omega (arith, piece.least) in
    absurd (both_ways _ (subst (λ n. may_end bs block_comment i n ≡ false) same (deep.never (i + 4) (omega arith) (omega arith))) piece.ends))
    (cases_lt (i + 4) e)

-- before an ASCII byte, and at the end of the text
before_ascii : (bs : List ℕ) (e : ℕ) → e ≤ length bs → (e < length bs → byte_at bs e < 128) → IsCharBoundary bs e
before_ascii bs e h a =
    ⊎_elim
    (λ (less : e < length bs). IsCharBoundary-before_ascii bs e less (a less))
    (λ (most : length bs ≤ e). let same : length bs ≡ e = omega arith in subst (IsCharBoundary bs) same (IsCharBoundary-end bs))
    (cases_lt e (length bs))

-- where the end of the text ends it, or a byte that passes a test of ASCII bytes
end_or_ascii : (bs : List ℕ) (e : ℕ) (b : Bool) → e ≤ length bs → (e == length bs || b) ≡ true → (b ≡ true → byte_at bs e < 128) → IsCharBoundary bs e
end_or_ascii bs e b h ends a =
    before_ascii bs e h
    (λ less.
    ⊎_elim
    (λ (end : (e == length bs) ≡ true). let same = eqb-true e (length bs) end in absurd (omega (arith, same)))
    a
    (or_cases (e == length bs) b ends))

pub least_size_some : (l : Lexeme) → 1 ≤ least_size l
least_size_some separator = omega arith
least_size_some line_comment = omega arith
least_size_some block_comment = omega arith
least_size_some string = omega arith
least_size_some special = omega arith
least_size_some word = omega arith

pub piece_ends : (bs : List ℕ) (l : Lexeme) (i e : ℕ) → IsUtf8 bs → IsPiece bs l i e → IsCharBoundary bs e
piece_ends bs separator i e u piece =
    let one : i + 1 ≡ e = sym (one_byte bs separator i e piece refl refl) in
    subst (IsCharBoundary bs) one (IsCharBoundary-after_ascii bs i u piece.there (ascii_separator _ (begins_separator bs i piece.begins)))
piece_ends bs special i e u piece =
    let one : i + 1 ≡ e = sym (one_byte bs special i e piece refl refl) in
    subst (IsCharBoundary bs) one (IsCharBoundary-after_ascii bs i u piece.there (ascii_special _ (begins_special bs i piece.begins)))
piece_ends bs line_comment i e u piece = end_or_ascii bs e (byte_at bs e == 10) piece.within piece.ends (λ feed. let same = eqb-true _ _ feed in omega (arith, same))
piece_ends bs word i e u piece = end_or_ascii bs e (parts_word (byte_at bs (e - 1)) (byte_at bs e)) piece.within piece.ends (ascii_parting (byte_at bs (e - 1)) (byte_at bs e))
piece_ends bs block_comment i e u piece = behind_ascii bs i e u (omega (arith, piece.least)) piece.within (closing bs i e piece)
piece_ends bs string i e u piece =
    let quote = eqb-true _ _ (and_parts (byte_at bs (e - 1) == 34) _ piece.ends).0 in
    behind_ascii bs i e u (omega (arith, piece.least)) piece.within (omega (arith, quote))
