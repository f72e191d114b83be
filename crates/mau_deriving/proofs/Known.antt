-- What is known from some number of levels on, through the combinators of computations.
use Rattle.std.proofs.Common.{◌≡◌, ◌⊎◌, inl, inr, ℕ, ◌+◌, ◌<◌, List, [], ◌∷◌, ◌++◌, Option, Some, None, refl, ap, ◌∙◌, arith}
use Rattle.mau_evaluation.specs.Run.{End, too_deep, Outcome, done, ended, Run, gives, counted, go_on, counted_if, try_on, put_back, and_then, and_try, apart, each_in_turn}
use Rattle.mau_deriving.specs.Known.{IsKnownFrom, EndsWith, AreKnownFrom}

abbrev pub IsSoFrom : {A : Type 0} → ℕ → ℕ → Outcome A → Outcome A → Type 0
IsSoFrom n j o o' = (o ≡ o') ⊎ ((j < n) × (o ≡ ended too_deep))

pub gives_known : {A : Type 0} (x : A) → IsKnownFrom (λ j. gives x) x
gives_known x = record { enough = 0; known = λ j b. inl refl }

module _ {A B : Type 0} (f : ℕ → Run A) (k : ℕ → A → Run B) where
  pub then_known : (x : A) (y : B) → IsKnownFrom f x → IsKnownFrom (λ j. k j x) y → IsKnownFrom (λ j. and_then (f j) (k j)) y
  then_known x y p q = record { enough = p.enough + q.enough; known = λ j b. by j b (p.known j b) (q.known j b) }
    where
      by : (j b : ℕ) → IsSoFrom p.enough j (f j b) (done x 0 b) → IsSoFrom q.enough j (k j x b) (done y 0 b) → IsSoFrom (p.enough + q.enough) j (and_then (f j) (k j) b) (done y 0 b)
      by j b (inl e) (inl g) = inl (ap (go_on (k j)) e ∙ ap (counted 0) g)
      by j b (inl e) (inr g) = inr (omega (arith, g.0), ap (go_on (k j)) e ∙ ap (counted 0) g.1)
      by j b (inr e) h = inr (omega (arith, e.0), ap (go_on (k j)) e.1)

  pub first_ends : {C : Type 0} (g : ℕ → Outcome C) → EndsWith f g → EndsWith (λ j. and_then (f j) (k j)) g
  first_ends g p = record { enough = p.enough; ends = λ j b e h. by j b e (p.ends j b e h) }
    where
      by : (j b : ℕ) (e : End) → IsSoFrom p.enough j (f j b) (ended e) → IsSoFrom p.enough j (and_then (f j) (k j) b) (ended e)
      by j b e (inl h) = inl (ap (go_on (k j)) h)
      by j b e (inr h) = inr (h.0, ap (go_on (k j)) h.1)

  pub second_ends : {C : Type 0} (g : ℕ → Outcome C) (x : A) → IsKnownFrom f x → EndsWith (λ j. k j x) g → EndsWith (λ j. and_then (f j) (k j)) g
  second_ends g x p q = record { enough = p.enough + q.enough; ends = λ j b e h. by j b e (p.known j b) (q.ends j b e h) }
    where
      by : (j b : ℕ) (e : End) → IsSoFrom p.enough j (f j b) (done x 0 b) → IsSoFrom q.enough j (k j x b) (ended e) → IsSoFrom (p.enough + q.enough) j (and_then (f j) (k j) b) (ended e)
      by j b e (inl h) (inl g) = inl (ap (go_on (k j)) h ∙ ap (counted 0) g)
      by j b e (inl h) (inr g) = inr (omega (arith, g.0), ap (go_on (k j)) h ∙ ap (counted 0) g.1)
      by j b e (inr h) g = inr (omega (arith, h.0), ap (go_on (k j)) h.1)

module _ {A B : Type 0} (f : ℕ → Run A) (k : ℕ → A → Run (Option B)) where
  zero_counted : (o : Option B) (b : ℕ) → counted_if 0 (done o 0 b) ≡ done o 0 b
  zero_counted (Some y) b = refl
  zero_counted None b = refl

  pub try_known : (x : A) (y : Option B) → IsKnownFrom f x → IsKnownFrom (λ j. k j x) y → IsKnownFrom (λ j. and_try (f j) (k j)) y
  try_known x y p q = record { enough = p.enough + q.enough; known = λ j b. by j b (p.known j b) (q.known j b) }
    where
      by : (j b : ℕ) → IsSoFrom p.enough j (f j b) (done x 0 b) → IsSoFrom q.enough j (k j x b) (done y 0 b) → IsSoFrom (p.enough + q.enough) j (and_try (f j) (k j) b) (done y 0 b)
      by j b (inl e) (inl g) = inl (ap (try_on (k j)) e ∙ (ap (counted_if 0) g ∙ zero_counted y b))
      by j b (inl e) (inr g) = inr (omega (arith, g.0), ap (try_on (k j)) e ∙ ap (counted_if 0) g.1)
      by j b (inr e) h = inr (omega (arith, e.0), ap (try_on (k j)) e.1)

  pub try_ends : {C : Type 0} (g : ℕ → Outcome C) (x : A) → IsKnownFrom f x → EndsWith (λ j. k j x) g → EndsWith (λ j. and_try (f j) (k j)) g
  try_ends g x p q = record { enough = p.enough + q.enough; ends = λ j b e h. by j b e (p.known j b) (q.ends j b e h) }
    where
      by : (j b : ℕ) (e : End) → IsSoFrom p.enough j (f j b) (done x 0 b) → IsSoFrom q.enough j (k j x b) (ended e) → IsSoFrom (p.enough + q.enough) j (and_try (f j) (k j) b) (ended e)
      by j b e (inl h) (inl g) = inl (ap (try_on (k j)) h ∙ ap (counted_if 0) g)
      by j b e (inl h) (inr g) = inr (omega (arith, g.0), ap (try_on (k j)) h ∙ ap (counted_if 0) g.1)
      by j b e (inr h) g = inr (omega (arith, h.0), ap (try_on (k j)) h.1)

-- a computation apart ends where that with its own budget ends
pub apart_ends : {A : Type 0} (n : ℕ) (m : ℕ → Run A) → EndsWith (λ j. apart n (m j)) (λ j. m j n)
apart_ends n m = record { enough = 0; ends = λ j b e h. inl (ap (put_back b) h) }

-- ---- one after another

module _ {A B : Type 0} (f : ℕ → A → Run B) where
  pub known_more : (xs : List A) (ys : List B) (x : A) (y : B) → AreKnownFrom f xs ys → IsKnownFrom (λ j. f j x) y → AreKnownFrom f (xs ++ x ∷ []) (ys ++ y ∷ [])
  known_more [] [] x y h k = (k, tt)
  known_more [] (z ∷ ys) x y h k = absurd h
  known_more (w ∷ xs) [] x y h k = absurd h
  known_more (w ∷ xs) (z ∷ ys) x y h k = (h.0, known_more xs ys x y h.1 k)

  pub each_known : (xs : List A) (ys : List B) → AreKnownFrom f xs ys → IsKnownFrom (λ j. each_in_turn (f j) xs) ys
  each_known [] [] h = gives_known []
  each_known [] (y ∷ ys) h = absurd h
  each_known (x ∷ xs) [] h = absurd h
  each_known (x ∷ xs) (y ∷ ys) h =
      then_known (λ j. f j x) (λ j z. and_then (each_in_turn (f j) xs) (λ zs. gives (z ∷ zs))) y (y ∷ ys) h.0
      (then_known (λ j. each_in_turn (f j) xs) (λ j zs. gives (y ∷ zs)) ys (y ∷ ys) (each_known xs ys h.1) (gives_known (y ∷ ys)))

  pub each_ends : {C : Type 0} (g : ℕ → Outcome C) (xs : List A) (ys : List B) (x : A) (more : List A) → AreKnownFrom f xs ys → EndsWith (λ j. f j x) g → EndsWith (λ j. each_in_turn (f j) (xs ++ x ∷ more)) g
  each_ends g [] [] x more h p = first_ends (λ j. f j x) (λ j z. and_then (each_in_turn (f j) more) (λ zs. gives (z ∷ zs))) g p
  each_ends g [] (y ∷ ys) x more h p = absurd h
  each_ends g (w ∷ xs) [] x more h p = absurd h
  each_ends g (w ∷ xs) (y ∷ ys) x more h p =
      second_ends (λ j. f j w) (λ j z. and_then (each_in_turn (f j) (xs ++ x ∷ more)) (λ zs. gives (z ∷ zs))) g y h.0
      (first_ends (λ j. each_in_turn (f j) (xs ++ x ∷ more)) (λ j zs. gives (y ∷ zs)) g (each_ends g xs ys x more h.1 p))
