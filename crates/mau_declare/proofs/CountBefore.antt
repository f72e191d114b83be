-- How many members pass a test that holds of the first ones alone.
use Rattle.std.proofs.Common.{◌≡◌, ℕ, zero, suc, ◌+◌, ◌-◌, ◌<◌, ◌≤◌, List, Bool, true, false, length, get_or, take, refl, sym, ap, ◌∙◌, arith, add-one}
use Rattle.std.specs.List.{count_by}
use Rattle.std.proofs.lemmas.List.Sums.{count_by_more_yes, count_by_more_no}
use Rattle.std.proofs.Math.Seq.{take-length}

module _ {X : Type 0} (p : X → Bool) (xs : List X) (d : X) (i : ℕ) (within : i ≤ length xs) (yes : (k : ℕ) → k < i → p (get_or xs k d) ≡ true)
    (no : (k : ℕ) → i ≤ k → k < length xs → p (get_or xs k d) ≡ false) where
  before : (k : ℕ) → k ≤ i → count_by p (take k xs) ≡ k
  before zero h = refl
  before (suc k) h =
      ap (λ m. count_by p (take m xs)) (sym (add-one k)) ∙ count_by_more_yes p xs k d (omega arith) (yes k (omega arith))
      ∙ ap (λ m. m + 1) (before k (omega arith)) ∙ add-one k

  behind : (k : ℕ) → i + k ≤ length xs → count_by p (take (i + k) xs) ≡ i
  behind zero h = let e : i + 0 ≡ i = omega arith in ap (λ m. count_by p (take m xs)) e ∙ before i (omega arith)
  behind (suc k) h =
      let e : i + suc k ≡ i + k + 1 = omega arith in
      ap (λ m. count_by p (take m xs)) e ∙ count_by_more_no p xs (i + k) d (omega arith) (no (i + k) (omega arith) (omega arith)) ∙ behind k (omega arith)

  pub first_counted : count_by p xs ≡ i
  first_counted =
      let e : i + (length xs - i) ≡ length xs = omega arith in
      ap (count_by p) (sym (take-length xs)) ∙ ap (λ m. count_by p (take m xs)) (sym e) ∙ behind (length xs - i) (omega arith)
