-- How many members a kind has, and products that stop at a greatest number.
use Rattle.std.proofs.Common.{◌≡◌, ℕ, zero, suc, ◌+◌, ◌*◌, ◌<◌, ◌≤◌, ◌==◌, ◌++◌, [], ◌∷◌, min, ⊎_elim, List, Bool, true, false, if◌then◌else◌, length, get_or, drop, refl, sym, ◌∙◌, ap, ap₂, length-append, arith}
use Rattle.std.specs.Prelude.{All, filter}
use Rattle.std.specs.List.{range_with_len}
use Rattle.std.proofs.Math.Nat.{mul_assoc, mul-le-mul_left}
use Rattle.std.proofs.Math.Seq.{drop-cons}
use Rattle.std.proofs.lemmas.Bool.{cases_lt, cases_eq}
use Rattle.std.proofs.lemmas.Bool.Decides.{nat_tests}
use Rattle.std.proofs.lemmas.List.Elements.{All-get_or, filter-append}
use Rattle.std.proofs.lemmas.List.Sums.{length-filter}
use Rattle.std.proofs.lemmas.List.{drop_all}
use Rattle.mau_poset.specs.Order.{Hierarchy, kind_of, kinds}
use Rattle.mau_poset.proofs.Orders.{kind_of-kind}
use Rattle.mau_sigcheck.specs.Tuples.{IsKind, sorts_in, tuples_of}
use Rattle.mau_sigcheck.specs.Checking.{members_of}

capped : (x r m : ℕ) → min (min x m * r) m ≡ min (x * r) m
capped x zero m = let a : min x m * 0 ≡ 0 = omega arith in let b : x * 0 ≡ 0 = omega arith in ap (λ y. min y m) (a ∙ sym b)
capped x (suc r) m = ⊎_elim
    (λ (over : m < x).
    let e : min x m ≡ m = omega arith in
    let a : m * 1 ≤ m * suc r = mul-le-mul_left m (let one : 1 ≤ suc r = omega arith in one) in
    let b : x * 1 ≤ x * suc r = mul-le-mul_left x (let one : 1 ≤ suc r = omega arith in one) in
    let f : min (m * suc r) m ≡ min (x * suc r) m = omega arith in
    ap (λ y. min (y * suc r) m) e ∙ f)
    (λ (within : x ≤ m). let e : min x m ≡ x = omega arith in ap (λ y. min (y * suc r) m) e)
    (cases_lt m x)

-- ---- the members of a kind

range-split : (a m n : ℕ) → range_with_len a (m + n) ≡ range_with_len a m ++ range_with_len (a + m) n
range-split a zero n = ap₂ range_with_len (let e : a ≡ a + 0 = omega arith in e) (let e : 0 + n ≡ n = omega arith in e)
range-split a (suc m) n =
    ap (range_with_len a) (let e : suc m + n ≡ suc (m + n) = omega arith in e)
    ∙ ap (λ xs. a ∷ xs) (range-split (a + 1) m n ∙ ap (λ b. range_with_len (a + 1) m ++ range_with_len b n) (let e : (a + 1) + m ≡ a + suc m = omega arith in e))

module _ (h : Hierarchy) (k : ℕ) where
  in_kind : ℕ → Bool
  in_kind a = kind_of h a == k

  test_none : (a : ℕ) → h.sorts ≤ a → k < a → in_kind a ≡ false
  unfolding in_kind
  test_none a is_kind over = let own : kind_of h a ≡ a = kind_of-kind h a is_kind in grind (arith, nat_tests)

  test_one : (a : ℕ) → h.sorts ≤ a → k ≡ a → in_kind a ≡ true
  unfolding in_kind
  test_one a is_kind same = let own : kind_of h a ≡ a = kind_of-kind h a is_kind in grind (arith, nat_tests)

  test_other : (a : ℕ) → h.sorts ≤ a → a < k → in_kind a ≡ false
  unfolding in_kind
  test_other a is_kind below = let own : kind_of h a ≡ a = kind_of-kind h a is_kind in grind (arith, nat_tests)

  none_later : (a n : ℕ) → h.sorts ≤ a → k < a → filter in_kind (range_with_len a n) ≡ []
  none_later a zero is_kind over = refl
  none_later a (suc n) is_kind over =
      ap₂ (λ b xs. if b then a ∷ xs else xs) (test_none a is_kind over) (none_later (a + 1) n (omega arith) (omega arith))

  one_there : (a n : ℕ) → h.sorts ≤ a → a ≤ k → k < a + n → length (filter in_kind (range_with_len a n)) ≡ 1
  one_there a zero is_kind le lt = absurd (omega arith)
  one_there a (suc n) is_kind le lt = ⊎_elim
      (λ (e : k ≡ a). ap₂ (λ b xs. length (if b then a ∷ xs else xs)) (test_one a is_kind e) (none_later (a + 1) n (omega arith) (omega arith)))
      (λ (ne : k ≡ a → ⊥).
      ap (λ b. length (if b then a ∷ filter in_kind (range_with_len (a + 1) n) else filter in_kind (range_with_len (a + 1) n))) (test_other a is_kind (omega arith))
      ∙ one_there (a + 1) n (omega arith) (omega arith) (omega arith))
      (cases_eq k a)

  -- a kind has its sorts and itself as members
  members-length : IsKind h k → length (members_of h k) ≡ sorts_in h k + 1
  unfolding in_kind
  members-length is_kind =
      ap (λ xs. length (filter in_kind xs)) (range-split 0 h.sorts (kinds h))
      ∙ ap length (filter-append in_kind (range_with_len 0 h.sorts) (range_with_len (0 + h.sorts) (kinds h)))
      ∙ length-append (filter in_kind (range_with_len 0 h.sorts)) (filter in_kind (range_with_len (0 + h.sorts) (kinds h)))
      ∙ ap₂ (λ m n. m + n) (length-filter (λ a. kind_of h a == k) (range_with_len 0 h.sorts))
      (ap (λ a. length (filter in_kind (range_with_len a (kinds h)))) (let e : 0 + h.sorts ≡ h.sorts = omega arith in e)
      ∙ one_there h.sorts (kinds h) (omega arith) (omega arith) (omega arith))

-- one kind more is counted
pub counted-more : (h : Hierarchy) (kinds members : List ℕ) (i count next whole m : ℕ) → All (IsKind h) kinds → i < length kinds → members ≡ members_of h (get_or kinds i 0)
    → next ≡ min (count * length members) m → min (count * tuples_of h (drop i kinds)) m ≡ whole → min (next * tuples_of h (drop (i + 1) kinds)) m ≡ whole
counted-more h kinds members i count next whole m are_kinds lt are_members counted so_far =
    let rest = tuples_of h (drop (suc i) kinds) in
    let n = sorts_in h (get_or kinds i 0) + 1 in
    let here : tuples_of h (drop i kinds) ≡ n * rest = ap (tuples_of h) (drop-cons kinds i 0 lt) in
    let same : i + 1 ≡ suc i = omega arith in
    let many : length members ≡ n = ap length are_members ∙ members-length h (get_or kinds i 0) (All-get_or (IsKind h) kinds i 0 lt are_kinds) in
    ap (λ j. min (next * tuples_of h (drop j kinds)) m) same
    ∙ ap (λ x. min (x * rest) m) (counted ∙ ap (λ l. min (count * l) m) many)
    ∙ capped (count * n) rest m
    ∙ ap (λ x. min x m) (mul_assoc count n rest ∙ ap (λ x. count * x) (sym here))
    ∙ so_far

pub counted-all : (h : Hierarchy) (kinds : List ℕ) (i count m : ℕ) → length kinds ≤ i → count ≤ m → min (count * tuples_of h (drop i kinds)) m ≡ min (tuples_of h kinds) m
    → count ≡ min (tuples_of h kinds) m
counted-all h kinds i count m ends small counted =
    let all : tuples_of h (drop i kinds) ≡ 1 = ap (tuples_of h) (drop_all i kinds ends) in
    let one : count * 1 ≡ count = omega arith in
    let fits : min count m ≡ count = omega arith in
    sym fits ∙ ap (λ x. min x m) (sym one ∙ ap (λ x. count * x) (sym all)) ∙ counted
