-- The parentheses of a block comment.
use Rattle.std.proofs.Common.{◌≡◌, ◌≢◌, ℕ, ◌+◌, ◌-◌, ◌<◌, ◌≤◌, List, length, take, drop, true, false, ◌==◌, ⊎_elim, sym, ◌∙◌, ap, subst, arith}
use Rattle.std.proofs.lemmas.Bool.{cases_lt}
use Rattle.std.proofs.lemmas.Grind.{common_steps}
use Rattle.std.proofs.lemmas.List.{get_or_past}
use Rattle.std.specs.List.{count_by}
use Rattle.mau_tokens.specs.Lexeme.{byte_at, lexeme_at, block_comment}
use Rattle.mau_tokens.specs.Ending.{count_between, may_end, IsPiece}
use Rattle.mau_tokens.proofs.Counting.{count_between-yes, count_between-no}
use Rattle.mau_tokens.proofs.Least.{one_more}

-- before e the comment that begins at i has so many more parentheses opened than closed, and could not end
pub record IsDeep (bs : List ℕ) (i e depth : ℕ) : Type 0 where
  pub unclosed : count_between 40 bs (i + 3) e ≡ count_between 41 bs (i + 3) e + depth
  pub some : 0 < depth
  pub fits : depth ≤ e
  pub never : (m : ℕ) → i + 4 ≤ m → m ≤ e → may_end bs block_comment i m ≡ false

differ : (a b d : ℕ) → a ≡ b + d → 0 < d → (a == b) ≡ false
differ a b d e h = grind (arith, common_steps)

same : (a b : ℕ) → a ≡ b → (a == b) ≡ true
same a b e = grind (arith, common_steps)

-- one byte more, behind which it cannot end either
further : (bs : List ℕ) (i e d k : ℕ) → IsDeep bs i e d → count_between 40 bs (i + 3) (e + 1) ≡ count_between 41 bs (i + 3) (e + 1) + k → 0 < k → k ≤ e + 1 → IsDeep bs i (e + 1) k
further bs i e d k deep counts some fits =
    record {
      unclosed = counts;
      some = some;
      fits = fits;
      never = λ m l h.
          one_more
          (λ n. may_end bs block_comment i n ≡ false)
          (i + 4)
          (e + 1)
          (λ n l h. deep.never n l (omega arith))
          (differ _ _ k counts some)
          m
          l
          (omega arith);
    }

-- a block comment has a parenthesis behind its sign
opens : (bs : List ℕ) (i : ℕ) → lexeme_at bs i ≡ block_comment → byte_at bs (i + 3) ≡ 40
opens bs i e = grind (arith, common_steps)

byte_within : (bs : List ℕ) (i : ℕ) → byte_at bs i ≡ 40 → i < length bs
byte_within bs i e =
    ⊎_elim
    (λ (less : i < length bs). less)
    (λ (past : length bs ≤ i). let none : 0 ≡ 40 = sym (get_or_past bs i 0 past) ∙ e in absurd (omega (arith, none)))
    (cases_lt i (length bs))

none_between : (b : ℕ) (bs : List ℕ) (i : ℕ) → count_between b bs i i ≡ 0
none_between b bs i = let none : i - i ≡ 0 = omega arith in ap (λ n. count_by (λ c. c == b) (take n (drop i bs))) none

-- behind its sign and its first parenthesis
pub begins_deep : (bs : List ℕ) (i : ℕ) → lexeme_at bs i ≡ block_comment → IsDeep bs i (i + 4) 1
begins_deep bs i begins =
    let first = opens bs i begins in
    let within = byte_within bs (i + 3) first in
    let opened = count_between-yes 40 bs (i + 3) (i + 3) (omega arith) within (same _ _ first) in
    let closed = count_between-no 41 bs (i + 3) (i + 3) (omega arith) within (grind (arith, common_steps)) in
    let none = none_between 40 bs (i + 3) in
    let none' = none_between 41 bs (i + 3) in
    let counts : count_between 40 bs (i + 3) (i + 3 + 1) ≡ count_between 41 bs (i + 3) (i + 3 + 1) + 1 = omega (arith, opened, closed, none, none') in
    let there : i + 3 + 1 ≡ i + 4 = omega arith in
    subst (λ e. IsDeep bs i e 1) there
    (record {
      unclosed = counts;
      some = omega arith;
      fits = omega arith;
      never = λ m l h. let same : i + 3 + 1 ≡ m = omega arith in subst (λ n. may_end bs block_comment i n ≡ false) same (differ _ _ 1 counts (omega arith));
    })

pub goes_deeper : (bs : List ℕ) (i e d : ℕ) → IsDeep bs i e d → i + 4 ≤ e → e < length bs → byte_at bs e ≡ 40 → IsDeep bs i (e + 1) (d + 1)
goes_deeper bs i e d deep l h b =
    let opened = count_between-yes 40 bs (i + 3) e (omega arith) h (same _ _ b) in
    let closed = count_between-no 41 bs (i + 3) e (omega arith) h (grind (arith, common_steps)) in
    further bs i e d (d + 1) deep (omega (arith, opened, closed, deep.unclosed)) (omega arith) (omega (arith, deep.fits))

pub goes_up : (bs : List ℕ) (i e d : ℕ) → IsDeep bs i e d → i + 4 ≤ e → e < length bs → byte_at bs e ≡ 41 → d ≢ 1 → IsDeep bs i (e + 1) (d - 1)
goes_up bs i e d deep l h b more =
    let opened = count_between-no 40 bs (i + 3) e (omega arith) h (grind (arith, common_steps)) in
    let closed = count_between-yes 41 bs (i + 3) e (omega arith) h (same _ _ b) in
    further bs i e d (d - 1) deep (omega (arith, opened, closed, deep.unclosed, deep.some)) (omega (arith, deep.some)) (omega (arith, deep.fits))

pub stays_deep : (bs : List ℕ) (i e d : ℕ) → IsDeep bs i e d → i + 4 ≤ e → e < length bs → byte_at bs e ≢ 40 → byte_at bs e ≢ 41 → IsDeep bs i (e + 1) d
stays_deep bs i e d deep l h b c =
    let opened = count_between-no 40 bs (i + 3) e (omega arith) h (grind (arith, common_steps)) in
    let closed = count_between-no 41 bs (i + 3) e (omega arith) h (grind (arith, common_steps)) in
    further bs i e d d deep (omega (arith, opened, closed, deep.unclosed)) deep.some (omega (arith, deep.fits))

-- where the last one is closed, the comment ends
pub ends_there : (bs : List ℕ) (i e : ℕ) → i < length bs → lexeme_at bs i ≡ block_comment → IsDeep bs i e 1 → i + 4 ≤ e → e < length bs → byte_at bs e ≡ 41 → IsPiece bs block_comment i (e + 1)
ends_there bs i e there begins deep l h b =
    let opened = count_between-no 40 bs (i + 3) e (omega arith) h (grind (arith, common_steps)) in
    let closed = count_between-yes 41 bs (i + 3) e (omega arith) h (same _ _ b) in
    record {
      there = there;
      begins = begins;
      least = omega arith;
      within = omega arith;
      ends = same _ _ (omega (arith, opened, closed, deep.unclosed));
      first = λ m k n. deep.never m k (omega arith);
    }
