-- The first sort of a kind.
use Rattle.std.proofs.Common.{◌≡◌, ℕ, ◌<◌, ◌≤◌, Bool, true, false, cond, Some, None, length, get_or, sym, ap, ◌∙◌, arith, eq-eqb}
use Rattle.std.specs.Prelude.{nat_eq, nat_lt}
use Rattle.std.specs.List.{range_with_len, position_or_len}
use Rattle.std.proofs.lemmas.List.FromFn.{get_or-range_with_len, length-range_with_len}
use Rattle.std.proofs.lemmas.List.Sums.{position_or_len_is}
use Rattle.mau_poset.specs.Order.{Hierarchy, kind_of}
use Rattle.mau_module.specs.Numbering.{or_zero, first_sort_of}

other : (a b : ℕ) → (a ≡ b → ⊥) → nat_eq a b ≡ false
other a b n = grind arith

not_below : (n : ℕ) → nat_lt n n ≡ false
not_below n = grind arith

below : (m n : ℕ) → m < n → nat_lt m n ≡ true
below m n l = grind arith

-- the first s sorts have another kind
module _ (h : Hierarchy) (k s : ℕ) (before : (j : ℕ) → j < s → kind_of h j ≡ k → ⊥) where
  is_kind : ℕ → Bool
  is_kind j = nat_eq (kind_of h j) k

  fails : (n j : ℕ) → j < s → s ≤ n → nat_eq (kind_of h (get_or (range_with_len 0 n) j 0)) k ≡ false
  fails n j l m = ap (λ i. nat_eq (kind_of h i) k) (get_or-range_with_len 0 n j 0 (omega arith) ∙ omega arith) ∙ other _ _ (before j l)

  pub first_is : s < h.sorts → kind_of h s ≡ k → s ≡ first_sort_of h k
  first_is l here =
      let p : position_or_len (λ j. nat_eq (kind_of h j) k) (range_with_len 0 h.sorts) ≡ s =
      position_or_len_is (λ j. nat_eq (kind_of h j) k) (range_with_len 0 h.sorts) s 0 (rw length-range_with_len (omega arith)) (λ j m. fails h.sorts j m (omega arith))
      (λ _. ap (λ i. nat_eq (kind_of h i) k) (get_or-range_with_len 0 h.sorts s 0 l ∙ omega arith) ∙ eq-eqb _ _ here)
      in let t : nat_lt s (length (range_with_len 0 h.sorts)) ≡ true = rw length-range_with_len (below s h.sorts l)
      in sym (ap (λ i. or_zero (cond (nat_lt i (length (range_with_len 0 h.sorts))) (Some i) None)) p ∙ ap (λ b. or_zero (cond b (Some s) None)) t)

  pub none_is : s ≡ h.sorts → 0 ≡ first_sort_of h k
  none_is e =
      let p : position_or_len (λ j. nat_eq (kind_of h j) k) (range_with_len 0 h.sorts) ≡ h.sorts =
      position_or_len_is (λ j. nat_eq (kind_of h j) k) (range_with_len 0 h.sorts) h.sorts 0 (rw length-range_with_len (omega arith)) (λ j m. fails h.sorts j (omega arith) (omega arith))
      (λ m. absurd (omega (arith, rw length-range_with_len at m)))
      in let t : nat_lt h.sorts (length (range_with_len 0 h.sorts)) ≡ false = rw length-range_with_len (not_below h.sorts)
      in sym (ap (λ i. or_zero (cond (nat_lt i (length (range_with_len 0 h.sorts))) (Some i) None)) p ∙ ap (λ b. or_zero (cond b (Some h.sorts) None)) t)
