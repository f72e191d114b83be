-- Lists of levels: what is kept for terms.
use Rattle.std.proofs.Common.{◌≡◌, ◌⊎◌, inl, inr, ℕ, zero, suc, ◌<◌, ◌≤◌, List, [], ◌∷◌, ◌++◌, set, get_or, take, length, true, ltb, Option, None, Some, IfSome, slice_get, refl, sym, subst, ap, arith}
use Rattle.std.specs.Prelude.{SomeIff}
use Rattle.std.proofs.lemmas.Bool.{ltb-true}
use Rattle.mau_terms.specs.declared.ids.TermId.{TermId}
use Rattle.mau_machine.specs.Words.{Words, Keeps}
use Rattle.mau_resting.specs.Rests.{RestsBy, AreResting, AreKnownBy}
use Rattle.mau_resting.specs.Later.{resting_kept, rests_kept}
use Rattle.mau_resting.proofs.Rested.{rests_more}

-- ---- a place of a list

-- what stands at a place, as a slice gives it
pub found_at : (xs ys : List ℕ) (i d x : ℕ) → ys ≡ xs → true ≡ ltb i (length ys) → x ≡ get_or ys i d → slice_get xs i ≡ Some x
found_at xs ys i d x same there is = subst (λ zs. slice_get zs i ≡ Some x) same (at ys i (ltb-true i (length ys) (sym there)) is)
  where
    at : (zs : List ℕ) (i : ℕ) → i < length zs → x ≡ get_or zs i d → slice_get zs i ≡ Some x
    at [] i t e = absurd (omega (arith, t))
    at (z ∷ zs) zero t e = ap Some (sym e)
    at (z ∷ zs) (suc i) t e = at zs i (omega (arith, t)) e

pub iff_some : (X : ℕ → Type 0) (o : Option ℕ) (P : Type 0) (v : ℕ) → SomeIff o P v → X v → IfSome o X
iff_some X None P v is x = tt
iff_some X (Some y) P v is x = subst X (sym is.1) x

-- ---- what is known of some terms

module _ (levels : List ℕ) (n m : ℕ) (more : n ≤ m) where
  pub known_next : (known i : ℕ) (d : TermId) (ts : List TermId) → i < length ts → slice_get levels (get_or ts i d).0 ≡ Some known → (known ≡ 0 → ⊥) → known ≤ m → AreKnownBy levels n (take i ts) → AreKnownBy levels m (take (suc i) ts)
  known_next known i d [] h at some most all = absurd (omega (arith, h))
  known_next zero zero d (t ∷ ts) h at some most all = absurd (some refl)
  known_next (suc k) zero d (t ∷ ts) h at some most all = ((k, at, most), tt)
  known_next known (suc i) d (t ∷ ts) h at some most all =
      ((all.0.0, all.0.1, omega (arith, all.0.2, more)), known_next known i d ts (omega (arith, h)) at some most all.1)

-- ---- one term

-- a number of levels that is kept is enough
pub rests_at : {A C S D : Type 0} (w : Words A C S D) (levels : List ℕ) → AreResting w levels → (t known level : ℕ) → slice_get levels t ≡ Some known → (known ≡ 0 → ⊥) → known ≤ level → w.knows_value t × RestsBy w level t
rests_at w levels all t zero level at some h = absurd (some refl)
rests_at w levels all t (suc n) level at some h = ((all t n at).0, rests_more w (suc n) level (w.tree t) h (all t n at).1)

-- ---- one more

pub pushed : (xs : List ℕ) (i n : ℕ) → slice_get (xs ++ 0 ∷ []) i ≡ Some (suc n) → slice_get xs i ≡ Some (suc n)
pushed [] zero n e = cc
pushed [] (suc i) n e = cc
pushed (x ∷ xs) zero n e = e
pushed (x ∷ xs) (suc i) n e = pushed xs i n e

pub placed : (xs : List ℕ) (p v i n : ℕ) → slice_get (set xs p v) i ≡ Some (suc n) → (slice_get xs i ≡ Some (suc n)) ⊎ ((i ≡ p) × (suc n ≡ v))
placed [] p v i n e = inl e
placed (x ∷ xs) zero v zero n e = inr (refl, cc)
placed (x ∷ xs) zero v (suc i) n e = inl e
placed (x ∷ xs) (suc p) v zero n e = inl e
placed (x ∷ xs) (suc p) v (suc i) n e = by (placed xs p v i n e)
  where
    by : (slice_get xs i ≡ Some (suc n)) ⊎ ((i ≡ p) × (suc n ≡ v)) → (slice_get xs i ≡ Some (suc n)) ⊎ ((suc i ≡ suc p) × (suc n ≡ v))
    by (inl h) = inl h
    by (inr h) = inr (ap suc h.0, h.1)

pub marked : {A C S D : Type 0} (w w' : Words A C S D) → Keeps w w' → (old new : List ℕ) (t needed : ℕ) → AreResting w old → w.knows_value t → RestsBy w needed t →
    ((i n : ℕ) → slice_get new i ≡ Some (suc n) → (slice_get old i ≡ Some (suc n)) ⊎ ((i ≡ t) × (suc n ≡ needed))) → AreResting w' new
marked w w' keeps old new t needed all value rests put i n at = by (put i n at)
  where
    by : (slice_get old i ≡ Some (suc n)) ⊎ ((i ≡ t) × (suc n ≡ needed)) → w'.knows_value i × RestsBy w' (suc n) i
    by (inl h) = resting_kept w w' keeps old all i n h
    by (inr h) =
        let v = keeps.values t value in
        let one : w'.knows_value t × RestsBy w' needed t = (v.0, rests_kept w w' keeps t needed v.1 rests) in
        subst (λ j. w'.knows_value j × RestsBy w' (suc n) j) (sym h.0) (subst (λ z. w'.knows_value t × RestsBy w' z t) (sym h.1) one)
