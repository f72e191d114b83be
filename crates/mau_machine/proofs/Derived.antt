-- For who has a world: what is known from some number of levels on, where programs that derive nothing need none.
use Rattle.std.proofs.Common.{◌≡◌, ◌⊎◌, inl, inr, ℕ, ◌<◌, List, [], ◌∷◌, Bool, true, false, refl, sym, ap, ◌∙◌, arith}
use Rattle.mau_terms.specs.Finite.{IsIn}
use Rattle.mau_evaluation.specs.Run.{End, Outcome, done, ended, Run, too_deep}
use Rattle.mau_evaluation.specs.Program.{Membership, Program}
use Rattle.mau_machine.specs.Words.{DerivesNone, LeadsTo, IsKnownBy, EndsWhere}

-- no membership of a list is executable, or one is
some_or_none : (ms : List Membership) → ((x : Membership) → IsIn x ms → x.exec ≡ true → ⊥) ⊎ (((x : Membership) → IsIn x ms → x.exec ≡ true → ⊥) → ⊥)
some_or_none [] = inl (λ x i e. i)
some_or_none (m ∷ ms) = by m.exec refl (some_or_none ms)
  where
    by : (b : Bool) → m.exec ≡ b → (((x : Membership) → IsIn x ms → x.exec ≡ true → ⊥) ⊎ (((x : Membership) → IsIn x ms → x.exec ≡ true → ⊥) → ⊥)) →
        ((x : Membership) → IsIn x (m ∷ ms) → x.exec ≡ true → ⊥) ⊎ (((x : Membership) → IsIn x (m ∷ ms) → x.exec ≡ true → ⊥) → ⊥)
    by true e r = inr (λ h. h m (inl refl) e)
    by false e (inr some) = inr (λ h. some (λ x i. h x (inr i)))
    by false e (inl none) = inl (λ x i q. on x i q)
      where
        on : (x : Membership) → IsIn x (m ∷ ms) → x.exec ≡ true → ⊥
        on x (inl i) q = absurd (no (sym e ∙ (ap (λ y. y.exec) (sym i) ∙ q)))
          where
            no : false ≡ true → ⊥
            no z = cc
        on x (inr i) q = none x i q

pub derives_or_not : (P : Program) → DerivesNone P ⊎ (DerivesNone P → ⊥)
derives_or_not P = some_or_none P.memberships

-- f leads to g from some number of levels on, and by each number where nothing is derived
pub leads_by : {A : Type 0} (P : Program) (f g : ℕ → Run A) (enough : ℕ) → ((k b : ℕ) → (f k b ≡ g k b) ⊎ ((k < enough) × (f k b ≡ ended too_deep))) → (DerivesNone P → (k b : ℕ) → f k b ≡ g k b) → LeadsTo P f g
leads_by P f g enough leads exact = by (derives_or_not P)
  where
    by : DerivesNone P ⊎ (DerivesNone P → ⊥) → LeadsTo P f g
    by (inl none) = record { enough = 0; just = λ z. refl; leads = λ k b. inl (exact none k b) }
    by (inr some) = record { enough = enough; just = λ z. absurd (some z); leads = leads }

-- f gives x from some number of levels on; where nothing is derived it gives something by each number
pub known_by : {A : Type 0} (P : Program) (f : ℕ → Run A) (x : A) (enough : ℕ) → ((k b : ℕ) → (f k b ≡ done x 0 b) ⊎ ((k < enough) × (f k b ≡ ended too_deep))) →
    (DerivesNone P → (y : A) × ((k b : ℕ) → f k b ≡ done y 0 b)) → IsKnownBy P f x
known_by {A = A} P f x enough known exact = leads_by P f (λ k b. done x 0 b) enough known (λ none k b. let e = exact none in e.1 k b ∙ ap (λ z. done z 0 b) (same e.0 (e.1 enough 0) (known enough 0)))
  where
    same : (y : A) → f enough 0 ≡ done y 0 0 → ((f enough 0 ≡ done x 0 0) ⊎ ((enough < enough) × (f enough 0 ≡ ended too_deep))) → y ≡ x
    same y e (inl i) = value (sym e ∙ i)
      where
        value : done y 0 0 ≡ done x 0 0 → y ≡ x
        value z = cc
    same y e (inr q) = absurd (less q.0)
      where
        less : enough < enough → ⊥
        less h = omega (arith, h)

-- where a condition is asked, something is derived
pub ends_by : {A B : Type 0} (P : Program) (f : ℕ → Run A) (g : ℕ → Outcome B) (enough : ℕ) → ((k b : ℕ) (e : End) → g k ≡ ended e → (f k b ≡ ended e) ⊎ ((k < enough) × (f k b ≡ ended too_deep))) → (DerivesNone P → ⊥) → EndsWhere P f g
ends_by P f g enough ends some = record { enough = enough; just = λ z. absurd (some z); ends = ends }
