-- Counting bytes between two places.
use Rattle.std.proofs.Common.{◌≡◌, ℕ, ◌+◌, ◌-◌, ◌<◌, ◌≤◌, List, length, take, drop, get_or, true, false, ◌==◌, ◌∙◌, ap, arith}
use Rattle.std.proofs.lemmas.List.{get_or-drop, length-drop}
use Rattle.std.proofs.lemmas.List.Sums.{count_by_more_yes, count_by_more_no}
use Rattle.std.specs.List.{count_by}
use Rattle.mau_tokens.specs.Lexeme.{byte_at}
use Rattle.mau_tokens.specs.Ending.{count_between}

-- the byte behind those that were counted
next_byte : (bs : List ℕ) (i e : ℕ) → i ≤ e → get_or (drop i bs) (e - i) 0 ≡ byte_at bs e
next_byte bs i e h = get_or-drop i bs (e - i) 0 ∙ (let same : i + (e - i) ≡ e = omega arith in ap (λ n. get_or bs n 0) same)

one_further : (b : ℕ) (bs : List ℕ) (i e : ℕ) → i ≤ e → count_between b bs i (e + 1) ≡ count_by (λ c. c == b) (take (e - i + 1) (drop i bs))
one_further b bs i e h = let same : e + 1 - i ≡ e - i + 1 = omega arith in ap (λ n. count_by (λ c. c == b) (take n (drop i bs))) same

pub count_between-yes : (b : ℕ) (bs : List ℕ) (i e : ℕ) → i ≤ e → e < length bs → (byte_at bs e == b) ≡ true → count_between b bs i (e + 1) ≡ count_between b bs i e + 1
count_between-yes b bs i e h l y =
    one_further b bs i e h
    ∙ count_by_more_yes (λ c. c == b) (drop i bs) (e - i) 0 (omega (arith, length-drop i bs)) (ap (λ c. c == b) (next_byte bs i e h) ∙ y)

pub count_between-no : (b : ℕ) (bs : List ℕ) (i e : ℕ) → i ≤ e → e < length bs → (byte_at bs e == b) ≡ false → count_between b bs i (e + 1) ≡ count_between b bs i e
count_between-no b bs i e h l n =
    one_further b bs i e h
    ∙ count_by_more_no (λ c. c == b) (drop i bs) (e - i) 0 (omega (arith, length-drop i bs)) (ap (λ c. c == b) (next_byte bs i e h) ∙ n)
