-- Computations that are another one by enough levels, through the words of computations.
use Rattle.std.proofs.Common.{◌≡◌, ◌⊎◌, inl, inr, ℕ, suc, ◌+◌, ◌<◌, List, [], ◌∷◌, Bool, true, false, Option, None, refl, sym, ap, ◌∙◌, arith}
use Rattle.mau_terms.specs.Finite.{IsIn}
use Rattle.mau_evaluation.specs.Run.{done, ended, too_deep, Run, gives, try_on, or_go_on, or_else, and_try}
use Rattle.mau_evaluation.specs.Program.{Membership, Program}
use Rattle.mau_deriving.specs.Known.{IsKnownFrom}
use Rattle.mau_reduce.specs.Comes.{ComesTo}

-- ---- one after another

pub comes_same : {P : Program} {A : Type 0} {f g : ℕ → Run A} → ((k b : ℕ) → f k b ≡ g k b) → ComesTo P f g
comes_same e = record { enough = 0; just = λ none. refl; comes = λ k b. inl (e k b) }

pub comes_through : {P : Program} {A : Type 0} {f g h : ℕ → Run A} → ComesTo P f g → ComesTo P g h → ComesTo P f h
comes_through {f = f} {g = g} {h = h} x y = record {
  enough = x.enough + y.enough;
  just = λ none. let a = x.just none in let b = y.just none in omega (arith, a, b);
  comes = λ k b. by k b (x.comes k b) (y.comes k b);
}
  where
    by : (k b : ℕ) → (f k b ≡ g k b) ⊎ ((k < x.enough) × (f k b ≡ ended too_deep)) → (g k b ≡ h k b) ⊎ ((k < y.enough) × (g k b ≡ ended too_deep)) →
        (f k b ≡ h k b) ⊎ ((k < x.enough + y.enough) × (f k b ≡ ended too_deep))
    by k b (inl e) (inl d) = inl (e ∙ d)
    by k b (inl e) (inr d) = inr (omega (arith, d.0), e ∙ d.1)
    by k b (inr e) d = inr (omega (arith, e.0), e.1)

pub comes_from : {P : Program} {A : Type 0} {f g h : ℕ → Run A} → ((k b : ℕ) → f k b ≡ g k b) → ComesTo P g h → ComesTo P f h
comes_from {f = f} {g = g} {h = h} e x = record { enough = x.enough; just = x.just; comes = λ k b. by k b (x.comes k b) }
  where
    by : (k b : ℕ) → (g k b ≡ h k b) ⊎ ((k < x.enough) × (g k b ≡ ended too_deep)) → (f k b ≡ h k b) ⊎ ((k < x.enough) × (f k b ≡ ended too_deep))
    by k b (inl d) = inl (e k b ∙ d)
    by k b (inr d) = inr (d.0, e k b ∙ d.1)

pub comes_as : {P : Program} {A : Type 0} {f g h : ℕ → Run A} → ComesTo P f g → ((k b : ℕ) → g k b ≡ h k b) → ComesTo P f h
comes_as {f = f} {g = g} {h = h} x e = record { enough = x.enough; just = x.just; comes = λ k b. by k b (x.comes k b) }
  where
    by : (k b : ℕ) → (f k b ≡ g k b) ⊎ ((k < x.enough) × (f k b ≡ ended too_deep)) → (f k b ≡ h k b) ⊎ ((k < x.enough) × (f k b ≡ ended too_deep))
    by k b (inl d) = inl (d ∙ e k b)
    by k b (inr d) = inr d

-- by one level more
pub comes_above : {P : Program} {A : Type 0} {f g : ℕ → Run A} → ComesTo P f g → ComesTo P (λ k. f (suc k)) (λ k. g (suc k))
comes_above {f = f} {g = g} x = record { enough = x.enough; just = x.just; comes = λ k b. by k b (x.comes (suc k) b) }
  where
    by : (k b : ℕ) → (f (suc k) b ≡ g (suc k) b) ⊎ ((suc k < x.enough) × (f (suc k) b ≡ ended too_deep)) → (f (suc k) b ≡ g (suc k) b) ⊎ ((k < x.enough) × (f (suc k) b ≡ ended too_deep))
    by k b (inl d) = inl d
    by k b (inr d) = inr (omega (arith, d.0), d.1)

-- ---- what goes on behind

pub comes_or : {P : Program} {A : Type 0} {f g : ℕ → Run (Option A)} (r : ℕ → Run (Option A)) → ComesTo P f g → ComesTo P (λ k. or_else (f k) (r k)) (λ k. or_else (g k) (r k))
comes_or {f = f} {g = g} r x = record { enough = x.enough; just = x.just; comes = λ k b. by k b (x.comes k b) }
  where
    by : (k b : ℕ) → (f k b ≡ g k b) ⊎ ((k < x.enough) × (f k b ≡ ended too_deep)) →
        (or_go_on (r k) (f k b) ≡ or_go_on (r k) (g k b)) ⊎ ((k < x.enough) × (or_go_on (r k) (f k b) ≡ ended too_deep))
    by k b (inl d) = inl (ap (or_go_on (r k)) d)
    by k b (inr d) = inr (d.0, ap (or_go_on (r k)) d.1)

pub comes_try : {P : Program} {A B : Type 0} {f g : ℕ → Run A} (r : ℕ → A → Run (Option B)) → ComesTo P f g → ComesTo P (λ k. and_try (f k) (r k)) (λ k. and_try (g k) (r k))
comes_try {f = f} {g = g} r x = record { enough = x.enough; just = x.just; comes = λ k b. by k b (x.comes k b) }
  where
    by : (k b : ℕ) → (f k b ≡ g k b) ⊎ ((k < x.enough) × (f k b ≡ ended too_deep)) →
        (try_on (r k) (f k b) ≡ try_on (r k) (g k b)) ⊎ ((k < x.enough) × (try_on (r k) (f k b) ≡ ended too_deep))
    by k b (inl d) = inl (ap (try_on (r k)) d)
    by k b (inr d) = inr (d.0, ap (try_on (r k)) d.1)

-- what gives nothing is passed
pub comes_passed : {P : Program} {A : Type 0} {f r h : ℕ → Run (Option A)} → ComesTo P f (λ k. gives None) → ComesTo P r h → ComesTo P (λ k. or_else (f k) (r k)) h
comes_passed {f = f} {r = r} {h = h} x y = let z : ComesTo _ (λ k. or_else (f k) (r k)) r = comes_or r x in comes_through z y

-- ---- what is known from some number of levels on

-- some membership is executable, or none is
some_derives : (ms : List Membership) → ((m : Membership) → IsIn m ms → m.exec ≡ false) ⊎ ((m : Membership) × IsIn m ms × (m.exec ≡ true))
some_derives [] = inl (λ m i. absurd i)
some_derives (m ∷ ms) = by m.exec refl (some_derives ms)
  where
    by : (b : Bool) → m.exec ≡ b → ((x : Membership) → IsIn x ms → x.exec ≡ false) ⊎ ((x : Membership) × IsIn x ms × (x.exec ≡ true)) →
        ((x : Membership) → IsIn x (m ∷ ms) → x.exec ≡ false) ⊎ ((x : Membership) × IsIn x (m ∷ ms) × (x.exec ≡ true))
    by true e rest = inr (m, inl refl, e)
    by false e (inl none) = inl (λ x i. each x i)
      where
        each : (x : Membership) → IsIn x (m ∷ ms) → x.exec ≡ false
        each x (inl same) = ap (λ (y : Membership). y.exec) same ∙ e
        each x (inr i) = none x i
    by false e (inr one) = inr (one.0, inr one.1, one.2)

-- where no membership is executable what is known is so by all numbers of levels, if it is one value by all of these
pub known_comes : (P : Program) {A : Type 0} (f : ℕ → Run A) (x : A) → IsKnownFrom f x →
    (((m : Membership) → IsIn m P.memberships → m.exec ≡ false) → (y : A) × ((k b : ℕ) → f k b ≡ done y 0 b)) → ComesTo P f (λ k. gives x)
known_comes P {A = A} f x known plain = by (some_derives P.memberships)
  where
    value : {y z : A} {r q c d : ℕ} → done y r c ≡ done z q d → y ≡ z
    value e = cc

    same : (y : A) → ((k b : ℕ) → f k b ≡ done y 0 b) → (f known.enough 0 ≡ done x 0 0) ⊎ ((known.enough < known.enough) × (f known.enough 0 ≡ ended too_deep)) → y ≡ x
    same y e (inl d) = value (sym (e known.enough 0) ∙ d)
    same y e (inr d) = absurd (omega (arith, d.0))

    by : ((m : Membership) → IsIn m P.memberships → m.exec ≡ false) ⊎ ((m : Membership) × IsIn m P.memberships × (m.exec ≡ true)) → ComesTo P f (λ k. gives x)
    by (inl none) = let y = plain none in comes_same (λ k b. y.1 k b ∙ ap (λ z. done z 0 b) (same y.0 y.1 (known.known known.enough 0)))
    by (inr one) = record { enough = known.enough; just = λ none. absurd (none one.0 one.1 one.2); comes = known.known }
