-- The last open entry of a run is put in its place, further on.
use Rattle.std.proofs.Common.{◌≡◌, ℕ, ◌-◌, List, [], ◌∷◌, ◌++◌, length, set, sym, ◌∙◌, ap, ap₂, arith, length-append, append_assoc}
use Rattle.std.proofs.Math.Seq.{set-append_seam}

module _ {A : Type 0} (stack before : List A) (o x : A) (e : stack ≡ before ++ o ∷ []) where
  last_place : length stack - 1 ≡ length before
  last_place = omega (arith, ap length e, length-append before (o ∷ []))

  pub set_last : (n : ℕ) → n ≡ length stack - 1 → set stack n x ≡ before ++ x ∷ []
  set_last n h = ap₂ (λ s i. set s i x) e (h ∙ last_place) ∙ set-append_seam before o [] x

  -- and where another one is behind it
  pub set_below : (y : A) (pushed : List A) (n : ℕ) → pushed ≡ stack ++ y ∷ [] → n ≡ length stack - 1 → set pushed n x ≡ (before ++ x ∷ []) ++ y ∷ []
  set_below y pushed n p h =
      ap₂ (λ s i. set s i x) (p ∙ (ap (λ s. s ++ y ∷ []) e ∙ append_assoc before (o ∷ []) (y ∷ []))) (h ∙ last_place)
      ∙ (set-append_seam before o (y ∷ []) x ∙ sym (append_assoc before (x ∷ []) (y ∷ [])))
