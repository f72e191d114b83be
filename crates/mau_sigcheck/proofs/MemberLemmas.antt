-- The members of a kind: each is in the kind, each of the kind is there, and they ascend.
use Rattle.std.proofs.Common.{◌≡◌, ◌≢◌, ℕ, zero, suc, ◌+◌, ◌<◌, ◌≤◌, ◌==◌, List, [], ◌∷◌, ◌++◌, Bool, true, false, if◌then◌else◌, length, get_or, set, Vec, refl, sym, ◌∙◌, ap, subst, ⊎_elim, arith}
use Rattle.std.specs.Prelude.{filter, All}
use Rattle.std.specs.List.{range_with_len}
use Rattle.std.specs.List.Sorted.{IsStrictlyIncreasing}
use Rattle.std.proofs.lemmas.Bool.{cases_eq, cases_lt}
use Rattle.std.proofs.lemmas.Bool.Decides.{Decides-eqb, nat_tests}
use Rattle.std.proofs.lemmas.List.{get_or-set_same, get_or-set_other, length-set}
use Rattle.std.proofs.lemmas.List.Elements.{All-filter, All-from_get_or, All-get_or, filter-append, filter_passes}
use Rattle.std.proofs.lemmas.List.FromFn.{length-range_with_len, get_or-range_with_len}
use Rattle.std.proofs.lemmas.List.Kept.{AllPairs-from_increasing, IsStrictlyIncreasing-filter}
use Rattle.mau_poset.specs.Order.{Hierarchy, kind_of, kinds}
use Rattle.mau_sigcheck.specs.Tuples.{IsInKind}
use Rattle.mau_sigcheck.specs.Checking.{HasMembersBelow, members_below, members_of}

-- ---- one number more

range-end : (a n : ℕ) → range_with_len a (suc n) ≡ range_with_len a n ++ (a + n) ∷ []
range-end a zero = ap (λ x. x ∷ []) (let e : a ≡ a + 0 = omega arith in e)
range-end a (suc n) =
    ap (λ xs. a ∷ xs) (range-end (a + 1) n
    ∙ ap (λ x. range_with_len (a + 1) n ++ x ∷ []) (let e : (a + 1) + n ≡ a + suc n = omega arith in e))

members-more : (h : Hierarchy) (n k : ℕ) → members_below h (n + 1) k ≡ members_below h n k ++ (if kind_of h n == k then n ∷ [] else [])
members-more h n k =
    ap (λ m. members_below h m k) (let e : n + 1 ≡ suc n = omega arith in e)
    ∙ ap (filter (λ a. kind_of h a == k)) (range-end 0 n ∙ ap (λ x. range_with_len 0 n ++ x ∷ []) (let e : 0 + n ≡ n = omega arith in e))
    ∙ filter-append (λ a. kind_of h a == k) (range_with_len 0 n) (n ∷ [])

nothing-more : (xs : List ℕ) → xs ++ [] ≡ xs
nothing-more [] = refl
nothing-more (x ∷ xs) = ap (λ ys. x ∷ ys) (nothing-more xs)

member_taken : (h : Hierarchy) (n k : ℕ) → kind_of h n ≡ k → members_below h (n + 1) k ≡ members_below h n k ++ n ∷ []
member_taken h n k e =
    members-more h n k ∙ ap (λ b. members_below h n k ++ (if b then n ∷ [] else [])) ((Decides-eqb (kind_of h n) k).1 e)

member_left : (h : Hierarchy) (n k : ℕ) → kind_of h n ≢ k → members_below h (n + 1) k ≡ members_below h n k
member_left h n k ne =
    let other : (kind_of h n == k) ≡ false = grind (arith, nat_tests) in
    members-more h n k ∙ ap (λ b. members_below h n k ++ (if b then n ∷ [] else [])) other ∙ nothing-more (members_below h n k)

-- a number that is put into the list of its kind
pub HasMembersBelow-set : {Z : Type 0} (h : Hierarchy) (lists : List (Vec ℕ Z)) (n j : ℕ) (had has : Vec ℕ Z) → j < kinds h → h.sorts + j ≡ kind_of h n
    → had ≡ get_or lists j had → has.items ≡ had.items ++ n ∷ [] → HasMembersBelow h n lists → HasMembersBelow h (n + 1) (set lists j has)
HasMembersBelow-set {Z} h lists n j had has lt own read more so_far = record {
  len = length-set lists j has ∙ so_far.len;
  each = λ i d below. ⊎_elim
      (λ (e : i ≡ j). rw (e, get_or-set_same lists j has d in_lists, more) (ap (λ xs. xs ++ n ∷ []) old ∙ sym (member_taken h n (h.sorts + j) (sym own))))
      (λ (ne : i ≡ j → ⊥). rw (get_or-set_other lists j i has d ne) (so_far.each i d below ∙ sym (member_left h n (h.sorts + i) (λ e. ne (omega (arith, e, own))))))
      (cases_eq i j);
}
  where
    in_lists : j < length lists
    in_lists = rw so_far.len lt

    old : had.items ≡ members_below h n (h.sorts + j)
    old = subst (λ v. v.items ≡ members_below h n (h.sorts + j)) (sym read) (so_far.each j had lt)

-- ---- who is there

module _ (h : Hierarchy) (k : ℕ) where
  all-there : All (λ a. a < h.sorts + kinds h) (range_with_len 0 (h.sorts + kinds h))
  all-there = All-from_get_or (λ a. a < h.sorts + kinds h) (range_with_len 0 (h.sorts + kinds h)) 0
      (λ i lt.
      let below : i < h.sorts + kinds h = subst (λ n. i < n) (length-range_with_len 0 (h.sorts + kinds h)) lt in
      let e = get_or-range_with_len 0 (h.sorts + kinds h) i 0 below in
      omega arith)

  member_sound : (i : ℕ) → i < length (members_of h k) → IsInKind h k (get_or (members_of h k) i 0)
  member_sound i lt = (
    All-get_or (λ a. a < h.sorts + kinds h) (members_of h k) i 0 lt (All-filter (λ a. kind_of h a == k) (λ a. a < h.sorts + kinds h) (range_with_len 0 (h.sorts + kinds h)) all-there),
    (Decides-eqb (kind_of h (get_or (members_of h k) i 0)) k).0
        (All-get_or (λ a. (kind_of h a == k) ≡ true) (members_of h k) i 0 lt (filter_passes (λ a. kind_of h a == k) (range_with_len 0 (h.sorts + kinds h)))),
  )

  range_increasing : IsStrictlyIncreasing (range_with_len 0 (h.sorts + kinds h))
  range_increasing i lt =
      let below : i + 1 < h.sorts + kinds h = subst (λ n. i + 1 < n) (length-range_with_len 0 (h.sorts + kinds h)) lt in
      let e = get_or-range_with_len 0 (h.sorts + kinds h) i 0 (omega arith) in
      let f = get_or-range_with_len 0 (h.sorts + kinds h) (i + 1) 0 below in
      omega arith

  members_ascend : (i j : ℕ) → i < j → j < length (members_of h k) → get_or (members_of h k) i 0 < get_or (members_of h k) j 0
  members_ascend i j lt below =
      AllPairs-from_increasing (members_of h k) (IsStrictlyIncreasing-filter (λ a. kind_of h a == k) (range_with_len 0 (h.sorts + kinds h)) range_increasing) i j 0 lt below

kept : (p : ℕ → Bool) (xs : List ℕ) (x : ℕ) (i : ℕ) → i < length xs → get_or xs i 0 ≡ x → p x ≡ true
    → (j : ℕ) × (j < length (filter p xs)) × (get_or (filter p xs) j 0 ≡ x)
kept p [] x i lt e t = absurd (omega arith)
kept p (y ∷ xs) x zero lt e t = by (p y) (ap p e ∙ t)
  where
    by : (b : Bool) → b ≡ true → (j : ℕ) × (j < length (if b then y ∷ filter p xs else filter p xs)) × (get_or (if b then y ∷ filter p xs else filter p xs) j 0 ≡ x)
    by true k = (0, omega arith, e)
    by false k = cc
kept p (y ∷ xs) x (suc i) lt e t = by (p y) (kept p xs x i (omega arith) e t)
  where
    by : (b : Bool) → (j : ℕ) × (j < length (filter p xs)) × (get_or (filter p xs) j 0 ≡ x)
        → (j : ℕ) × (j < length (if b then y ∷ filter p xs else filter p xs)) × (get_or (if b then y ∷ filter p xs else filter p xs) j 0 ≡ x)
    by true w = (suc w.0, omega (arith, w.1), w.2)
    by false w = w

-- each of a kind is among the members
member_there : (h : Hierarchy) (k a : ℕ) → IsInKind h k a → (i : ℕ) × (i < length (members_of h k)) × (get_or (members_of h k) i 0 ≡ a)
member_there h k a there =
    kept (λ b. kind_of h b == k) (range_with_len 0 (h.sorts + kinds h)) a a
    (subst (λ n. a < n) (sym (length-range_with_len 0 (h.sorts + kinds h))) there.0)
    (get_or-range_with_len 0 (h.sorts + kinds h) a 0 there.0 ∙ (let e : 0 + a ≡ a = omega arith in e))
    ((Decides-eqb (kind_of h a) k).1 there.1)

-- ---- a list that is the members of a kind

module _ (h : Hierarchy) (k : ℕ) (ms : List ℕ) (are_members : ms ≡ members_of h k) where
  -- each is in the kind
  pub in_kind : (i : ℕ) → i < length ms → IsInKind h k (get_or ms i 0)
  in_kind i lt =
      subst (λ xs. IsInKind h k (get_or xs i 0)) (sym are_members) (member_sound h k i (subst (λ xs. i < length xs) are_members lt))

  -- each of the kind is there
  pub there : (a : ℕ) → IsInKind h k a → (i : ℕ) × (i < length ms) × (get_or ms i 0 ≡ a)
  there a in_k = subst (λ xs. (i : ℕ) × (i < length xs) × (get_or xs i 0 ≡ a)) (sym are_members) (member_there h k a in_k)

  ascend : (i j : ℕ) → i < j → j < length ms → get_or ms i 0 < get_or ms j 0
  ascend i j lt below = subst (λ xs. j < length xs → get_or xs i 0 < get_or xs j 0) (sym are_members) (members_ascend h k i j lt) below

  -- the place of a member is below that of a greater one
  pub place_below : (i j : ℕ) → i < length ms → get_or ms i 0 < get_or ms j 0 → i < j
  place_below i j lt less = ⊎_elim
      (λ (l : i < j). l)
      (λ (ge : j ≤ i). ⊎_elim
      (λ (e : j ≡ i). absurd (let k = ap (λ x. get_or ms x 0) e in omega arith))
      (λ (ne : j ≡ i → ⊥). absurd (let l : j < i = omega arith in let k = ascend j i l lt in omega arith))
      (cases_eq j i))
      (cases_lt i j)
