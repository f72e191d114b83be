-- Values by numbers, into which a value is put: they stay as they are where it is there, and else it goes last.
use Rattle.std.proofs.Common.{◌≡◌, ℕ, zero, suc, Bool, true, false, ◌||◌, ◌⊎◌, inl, inr, List, [], ◌∷◌, ◌++◌, slice_get, Some, refl, ap, sym, ◌∙◌, subst, if◌then◌else◌, true≢false}
use Rattle.std.specs.Bool.{Decides}
use Rattle.std.specs.List.{list_any}
use Rattle.mau_store.proofs.Places.{place_push}
use Rattle.mau_strat.specs.Sharing.{EachOnce}

-- x was put into old
abbrev pub IsInserted : {A : Type 0} → List A → A → List A → Type 0
IsInserted old x new = (new ≡ old) ⊎ ((new ≡ old ++ x ∷ []) × ((j : ℕ) → slice_get old j ≡ Some x → ⊥))

once_push : {A : Type 0} (xs : List A) (x : A) → EachOnce xs → ((j : ℕ) → slice_get xs j ≡ Some x → ⊥) → EachOnce (xs ++ x ∷ [])
once_push xs x once absent j k s p q =
    elim (place_push xs x s j p) [
      | inl p' ↦ elim (place_push xs x s k q) [
        | inl q' ↦ once j k s p' q'
        | inr b ↦ absurd (absent j (p' ∙ ap Some b.1))
      ]
      | inr a ↦ elim (place_push xs x s k q) [
        | inl q' ↦ absurd (absent k (q' ∙ ap Some a.1))
        | inr b ↦ a.0 ∙ sym b.0
      ]
    ]

pub once_inserted : {A : Type 0} (old new : List A) (x : A) → IsInserted old x new → EachOnce old → EachOnce new
once_inserted old new x (inl e) once = subst EachOnce (sym e) once
once_inserted old new x (inr e) once = subst EachOnce (sym e.0) (once_push old x once e.1)

pub added : {A : Type 0} (old new : List A) (x : A) → IsInserted old x new → (new ≡ old) ⊎ (new ≡ old ++ x ∷ [])
added old new x (inl e) = inl e
added old new x (inr e) = inr e.0

-- the second of two tests that both fail
later : (p q : Bool) → (p || q) ≡ false → q ≡ false
later true q h = absurd (cc)
later false q h = h

module _ {A : Type 0} (e : A → A → Bool) (decides : (a b : A) → Decides (e a b) (a ≡ b)) where
  -- what no test finds is not there
  absent : (xs : List A) (x : A) → list_any (e x) xs ≡ false → (j : ℕ) → slice_get xs j ≡ Some x → ⊥
  absent [] x h j p = cc
  absent (y ∷ ys) x h zero p =
      let same : e x y ≡ true = (decides x y).1 (cc) in
      let found : list_any (e x) (y ∷ ys) ≡ true = ap (λ b. b || list_any (e x) ys) same in
      true≢false (sym found ∙ h)
  absent (y ∷ ys) x h (suc j) p = absent ys x (later (e x y) (list_any (e x) ys) h) j p

  pub inserted_key : (xs : List A) (x : A) → IsInserted xs x (if list_any (e x) xs then xs else xs ++ x ∷ [])
  inserted_key xs x = by (list_any (e x) xs) refl
    where
      by : (b : Bool) → list_any (e x) xs ≡ b → IsInserted xs x (if b then xs else xs ++ x ∷ [])
      by true _ = inl refl
      by false h = inr (refl, absent xs x h)

  -- and it stands where a test found it
  pub placed : (xs : List A) (x : A) (n : ℕ) → (k : A) × (slice_get xs n ≡ Some k) × (e x k ≡ true) → slice_get xs n ≡ Some x
  placed xs x n s = s.1 ∙ ap Some (sym ((decides x s.0).0 s.2))
