-- Variables in order, each once, added to none one after another.
use Rattle.std.proofs.Common.{◌≡◌, ℕ, zero, suc, ◌+◌, List, [], ◌∷◌, ◌++◌, Bool, true, false, ◌||◌, if◌then◌else◌, take, slice_get, Some, refl, sym, ◌∙◌, ap, ap₂, subst, arith}
use Rattle.std.specs.List.{list_any}
use Rattle.std.proofs.lemmas.Bool.{or_parts}
use Rattle.std.proofs.lemmas.Option.{slice_get_within, get_or_from_slice_get}
use Rattle.std.proofs.Math.Seq.{take-suc}
use Rattle.mau_terms.specs.Vars.{same_pair, with_pair, AreDistinct}
use Rattle.mau_terms.proofs.Pairs.{same_pair-is, same_pair_itself}

-- none of the pairs passes a test, so the one at a place doesn't
passes_not : (p : (List ℕ × ℕ) → Bool) (xs : List (List ℕ × ℕ)) (k : ℕ) (y : List ℕ × ℕ) → list_any p xs ≡ false → slice_get xs k ≡ Some y → p y ≡ false
passes_not p [] k y none e = cc
passes_not p (x ∷ xs) zero y none e =
    let same : x ≡ y = cc in ap p (sym same) ∙ (or_parts (p x) (list_any p xs) none).0
passes_not p (x ∷ xs) (suc k) y none e = passes_not p xs k y (or_parts (p x) (list_any p xs) none).1 e

-- a pair is none of those before it
new_pair : (xs : List (List ℕ × ℕ)) (k : ℕ) (y : List ℕ × ℕ) → AreDistinct xs → slice_get xs k ≡ Some y → list_any (same_pair y) (take k xs) ≡ false
new_pair [] k y d e = cc
new_pair (x ∷ xs) zero y d e = refl
new_pair (x ∷ xs) (suc k) y d e = ap₂ (λ a b. a || b) (by (same_pair y x) refl) (new_pair xs k y d.1 e)
  where
    by : (b : Bool) → same_pair y x ≡ b → b ≡ false
    by false h = refl
    by true h =
        let other : same_pair x y ≡ false = passes_not (same_pair x) xs k y d.0 e in
        let itself : same_pair x y ≡ true = subst (λ w. same_pair x w ≡ true) (sym (same_pair-is y x h)) (same_pair_itself x) in
        sym itself ∙ other

-- the next pair goes behind those before it
pub next_pair : (xs : List (List ℕ × ℕ)) (k : ℕ) (y : List ℕ × ℕ) → AreDistinct xs → slice_get xs k ≡ Some y → with_pair (take k xs) y ≡ take (k + 1) xs
next_pair xs k y d e =
    let end : take (suc k) xs ≡ take k xs ++ y ∷ [] = take-suc xs k y (slice_get_within xs k y e) ∙ ap (λ w. take k xs ++ w ∷ []) (get_or_from_slice_get xs k y y e) in
    let next : suc k ≡ k + 1 = omega arith in
    ap (λ b. if b then take k xs else take k xs ++ y ∷ []) (new_pair xs k y d e) ∙ sym end ∙ ap (λ n. take n xs) next
