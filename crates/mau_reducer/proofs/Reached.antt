-- What the loop reaches by some number of levels.
use Rattle.std.proofs.Common.{◌≡◌, ◌⊎◌, inl, inr, ◌^◌, ◌-◌, ◌+◌, ◌<◌, ◌≤◌, ℕ, Option, Some, None, min, refl, sym, ap, ◌∙◌, subst, arith}
use Rattle.mau_evaluation.specs.Run.{End, Outcome, done, ended, stopped, too_deep, overflowed, counted_if}
use Rattle.mau_evaluation.specs.Program.{Program}
use Rattle.mau_api.specs.Told.{shown_count}
use Rattle.mau_api.specs.declared.results.EvalEnd.{EvalEnd}
use Rattle.mau_api.specs.declared.results.EvalEnd.TheVariants.{Stopped, TooDeep, Overflow, NoMemory}
use Rattle.mau_machine.specs.Words.{capped, IsEnd, DerivesNone, Comes, ComesToEnd}

-- by a number of levels that is n or more, and n where nothing is derived, g gives what Q holds of
pub record IsReached {A : Type 0} (P : Program) (g : ℕ → Outcome A) (n : ℕ) (Q : Outcome A → Type 0) : Type 0 where
  pub levels : ℕ
  pub enough : n ≤ levels
  pub just : DerivesNone P → levels ≡ n
  pub is : Q (g levels)

-- a count that is shown
pub as_counted : {A : Type 0} (o : Outcome A) (v : A) (r b : ℕ) → capped o ≡ done v r b → (q : ℕ) × (o ≡ done v q b) × (r ≡ shown_count q)
as_counted (done x q c) v r b e =
    let same : x ≡ v = cc in
    let left : c ≡ b = cc in
    let count : min q (2 ^ 64 - 1) ≡ r = cc in
    (q, ap (λ t. done t q c) same ∙ ap (λ d. done v q d) left, sym count)
as_counted (ended d) v r b e = cc

as_ended : {A : Type 0} (o : Outcome A) (e : End) → capped o ≡ ended e → o ≡ ended e
as_ended (done x q c) e h = cc
as_ended (ended d) e h = h

-- a failure, whose count is nothing
pub as_failed : {A : Type 0} (o : Outcome (Option A)) (r b : ℕ) → capped (counted_if 0 o) ≡ done None r b → (q : ℕ) × (o ≡ done None q b)
as_failed (done (Some x) q c) r b e = cc
as_failed (done None q c) r b e = let left : c ≡ b = cc in (q, ap (λ d. done None q d) left)
as_failed (ended d) r b e = cc

module _ {A : Type 0} (P : Program) (g : ℕ → Outcome A) (n : ℕ) where
  pub reached : {B : Type 0} (F : Outcome A → Outcome B) (o : Outcome B) → Comes P (λ j. F (g (n + j))) o → ((e : End) → F (ended e) ≡ ended e) → IsReached P g n (λ z. capped (F z) ≡ o)
  reached F o c keeps = record { levels = n + c.enough; enough = omega arith; just = λ none. let e = c.just none in omega (arith, e); is = by (c.comes c.enough) }
    where
      by : (capped (F (g (n + c.enough))) ≡ o) ⊎ ((c.enough < c.enough) × (F (g (n + c.enough)) ≡ ended too_deep)) → capped (F (g (n + c.enough))) ≡ o
      by (inl e) = e
      by (inr e) = absurd (omega (arith, e.0))

  pub value_reached : (x : A) (r b : ℕ) → Comes P (λ j. g (n + j)) (done x r b) → IsReached P g n (λ o. (q : ℕ) × (o ≡ done x q b) × (r ≡ shown_count q))
  value_reached x r b c =
      let k = reached (λ z. z) (done x r b) c (λ e. refl) in
      record { levels = k.levels; enough = k.enough; just = k.just; is = as_counted (g k.levels) x r b k.is }

  end_by : (e : End) → Comes P (λ j. g (n + j)) (ended e) → IsReached P g n (λ o. o ≡ ended e)
  end_by e c =
      let k = reached (λ z. z) (ended e) c (λ d. refl) in
      record { levels = k.levels; enough = k.enough; just = k.just; is = as_ended (g k.levels) e k.is }

  pub end_reached : (e : EvalEnd) → ComesToEnd P (λ j. g (n + j)) e → IsReached P g n (λ o. IsEnd o e)
  end_reached Stopped h = end_by stopped h
  end_reached TooDeep h =
      let same : n + 0 ≡ n = omega arith in
      record { levels = n; enough = omega arith; just = λ none. refl; is = subst (λ k. g k ≡ ended too_deep) same h }
  end_reached Overflow h = end_by overflowed h
  end_reached NoMemory h = record { levels = n; enough = omega arith; just = λ none. refl; is = tt }

  -- too deep it is by n
  pub too_deep_by : ComesToEnd P (λ j. g (n + j)) TooDeep → g n ≡ ended too_deep
  too_deep_by h = let same : n + 0 ≡ n = omega arith in subst (λ k. g k ≡ ended too_deep) same h

  -- what is left by n is left
  pub left_by : (x : A) (r b : ℕ) → Comes P (λ j. g (n + j)) (done x r b) → (v : A) (q left : ℕ) → g n ≡ done v q left → left ≡ b
  left_by x r b c v q left e =
      let same : n + 0 ≡ n = omega arith in
      by (subst (λ k. (capped (g k) ≡ done x r b) ⊎ ((0 < c.enough) × (g k ≡ ended too_deep))) same (c.comes 0))
    where
      by : (capped (g n) ≡ done x r b) ⊎ ((0 < c.enough) × (g n ≡ ended too_deep)) → left ≡ b
      by (inl h) = let own = as_counted (g n) x r b h in let two : done v q left ≡ done x own.0 b = sym e ∙ own.1 in cc
      by (inr h) = let no : ended too_deep ≡ done v q left = sym h.1 ∙ e in absurd (cc)

-- the same computations
pub comes_along : {P : Program} {A : Type 0} {g h : ℕ → Outcome A} → ((j : ℕ) → g j ≡ h j) → {o : Outcome A} → Comes P g o → Comes P h o
comes_along {g = g} {h = h} same {o = o} c = record { enough = c.enough; just = c.just; comes = λ j. by j (c.comes j) }
  where
    by : (j : ℕ) → (capped (g j) ≡ o) ⊎ ((j < c.enough) × (g j ≡ ended too_deep)) → (capped (h j) ≡ o) ⊎ ((j < c.enough) × (h j ≡ ended too_deep))
    by j (inl e) = inl (ap capped (sym (same j)) ∙ e)
    by j (inr e) = inr (e.0, sym (same j) ∙ e.1)

pub end_along : (P : Program) {A : Type 0} {g h : ℕ → Outcome A} → ((j : ℕ) → g j ≡ h j) → (e : EvalEnd) → ComesToEnd P g e → ComesToEnd P h e
end_along P same Stopped c = comes_along same c
end_along P same TooDeep c = sym (same 0) ∙ c
end_along P same Overflow c = comes_along same c
end_along P same NoMemory c = tt
