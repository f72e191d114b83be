-- Steps in a row, and steps in the first part of what is left.
use Rattle.std.proofs.Common.{◌≡◌, ◌⊎◌, inl, inr, ℕ, ◌+◌, ◌≤◌, true, false, Option, Ok, Err, refl, ap, ◌∙◌, arith}
use Rattle.mau_evaluation.specs.Run.{End, stopped, too_deep, overflowed}
use Rattle.mau_evaluation.specs.Program.{Program}
use Rattle.mau_evaluation.specs.Engine.{Engine, Engines, engine_of}
use Rattle.mau_evaluation.specs.Answers.{Answers, and_those}
use Rattle.mau_evaluation.specs.Eventually.{Eventually}
use Rattle.mau_evaluation.specs.Questions.{without}
use Rattle.mau_api.specs.declared.results.EvalEnd.{EvalEnd}
use Rattle.mau_api.specs.declared.results.EvalEnd.TheVariants.{Stopped, TooDeep, Overflow, NoMemory}
use Rattle.mau_api.specs.Answers.{levels_of_condition}
use Rattle.mau_leaves.specs.Steps.{Gives, IsOver, Passes, EndsNow, Before, Throughout, IsDue}
use Rattle.mau_leaves.specs.Answers.{IsDueBy}
use Rattle.mau_leaves.specs.Searches.{IsTurn, IsNextOne}
use Rattle.mau_leaves.specs.declared.turn.Turn.TheVariants.{Found, Passed, Over}

left_of : (m n k : ℕ) → m + n ≤ k → m ≤ k
left_of m n k h = omega arith

right_of : (m n k : ℕ) → m + n ≤ k → n ≤ k
right_of m n k h = omega arith

-- ---- from some limits on

module _ (E : Engines) where
  pub both_so : {A B C : Engine → Type 0} → ((L : Engine) → A L → B L → C L) → Eventually E A → Eventually E B → Eventually E C
  both_so f h g = record {
    level = h.level + g.level;
    each = h.each + g.each;
    budget = h.budget + g.budget;
    holds = λ k B b i j l. f (E k B b)
        (h.holds k B b (left_of h.level g.level k i) (left_of h.each g.each B j) (left_of h.budget g.budget b l))
        (g.holds k B b (right_of h.level g.level k i) (right_of h.each g.each B j) (right_of h.budget g.budget b l));
  }

  pub so : {A B : Engine → Type 0} → ((L : Engine) → A L → B L) → Eventually E A → Eventually E B
  so f h = record { level = h.level; each = h.each; budget = h.budget; holds = λ k B b i j l. f (E k B b) (h.holds k B b i j l) }

  pub always_so : {A : Engine → Type 0} → ((k B b : ℕ) → A (E k B b)) → Eventually E A
  always_so f = record { level = 0; each = 0; budget = 0; holds = λ k B b i j l. f k B b }

  -- ---- steps in a row

  module _ {A : Type 0} (a b : Engine → Answers A → Type 0) (first : Throughout E a (λ L. Passes (a L) (b L))) where
    -- behind one that leaves everything as it was
    pub then_so : {H K : Engine → Type 0} → ((L : Engine) → Passes (a L) (b L) → H L → K L) → Throughout E b H → Throughout E a K
    then_so {H = H} {K = K} f second = record {
      always = both_so {A = λ L. Passes (a L) (b L)} {B = H} {C = K} f first.always second.always;
      without_one = λ q e.
          both_so {A = λ L. Passes (a (without L q e)) (b (without L q e)) ⊎ EndsNow (a (without L q e)) e} {B = λ L. H (without L q e) ⊎ EndsNow (b (without L q e)) e} {C = λ L. K (without L q e) ⊎ EndsNow (a (without L q e)) e}
          (λ L. by (without L q e) e) (first.without_one q e) (second.without_one q e);
    }
      where
        by : (M : Engine) (e : End) → Passes (a M) (b M) ⊎ EndsNow (a M) e → H M ⊎ EndsNow (b M) e → K M ⊎ EndsNow (a M) e
        by M e (inl h) (inl k) = inl (f M h k)
        by M e (inl h) (inr k) = inr (λ p n. k p (h p n))
        by M e (inr h) k = inr h

    pub then_pass : (c : Engine → Answers A → Type 0) → Throughout E b (λ L. Passes (b L) (c L)) → Throughout E a (λ L. Passes (a L) (c L))
    then_pass c second = then_so {H = λ L. Passes (b L) (c L)} {K = λ L. Passes (a L) (c L)} (λ L h k p n. k p (h p n)) second

    pub then_gives : (x : A) (c : Engine → Answers A → Type 0) → Throughout E b (λ L. Gives (b L) x (c L)) → Throughout E a (λ L. Gives (a L) x (c L))
    then_gives x c second = then_so {H = λ L. Gives (b L) x (c L)} {K = λ L. Gives (a L) x (c L)} (λ L h k p n. k p (h p n)) second

    pub then_over : Throughout E b (λ L. IsOver (b L)) → Throughout E a (λ L. IsOver (a L))
    then_over second = then_so {H = λ L. IsOver (b L)} {K = λ L. IsOver (a L)} (λ L h k p n. k p (h p n)) second

    pub then_due : (P : Program) (k d : ℕ) (e : End) → IsDue P E k d b e → IsDue P E k d a e
    then_due P k d e due = record {
      question = due.question;
      ends = due.ends;
      needs = λ f.
          both_so {A = λ L. Passes (a (without L due.question f)) (b (without L due.question f)) ⊎ EndsNow (a (without L due.question f)) f} {B = λ L. EndsNow (b (without L due.question f)) f} {C = λ L. EndsNow (a (without L due.question f)) f}
          (λ L. by (without L due.question f) f) (first.without_one due.question f) (due.needs f);
    }
      where
        by : (M : Engine) (f : End) → Passes (a M) (b M) ⊎ EndsNow (a M) f → EndsNow (b M) f → EndsNow (a M) f
        by M f (inl h) k = λ p n. k p (h p n)
        by M f (inr h) k = h

  -- ---- the same with other words for what is left

  pub through_as : {A B : Type 0} (a : Engine → Answers A → Type 0) (b : Engine → Answers B → Type 0) {H K : Engine → Type 0} → ((L : Engine) → H L → K L) →
      ((L : Engine) (e : End) → EndsNow (a L) e → EndsNow (b L) e) → Throughout E a H → Throughout E b K
  through_as a b {H = H} {K = K} f g t = record {
    always = so {A = H} {B = K} f t.always;
    without_one = λ q e.
        so {A = λ L. H (without L q e) ⊎ EndsNow (a (without L q e)) e} {B = λ L. K (without L q e) ⊎ EndsNow (b (without L q e)) e} (λ L. by (without L q e) e) (t.without_one q e);
  }
    where
      by : (M : Engine) (e : End) → H M ⊎ EndsNow (a M) e → K M ⊎ EndsNow (b M) e
      by M e (inl h) = inl (f M h)
      by M e (inr h) = inr (g M e h)

  pub due_as : {A B : Type 0} (a : Engine → Answers A → Type 0) (b : Engine → Answers B → Type 0) → ((L : Engine) (e : End) → EndsNow (a L) e → EndsNow (b L) e) →
      (P : Program) (k d : ℕ) (e : End) → IsDue P E k d a e → IsDue P E k d b e
  due_as a b g P k d e due = record {
    question = due.question;
    ends = due.ends;
    needs = λ f. so {A = λ L. EndsNow (a (without L due.question f)) f} {B = λ L. EndsNow (b (without L due.question f)) f} (λ L h. g (without L due.question f) f h) (due.needs f);
  }

  -- what holds with every engine
  pub through_always : {A : Type 0} (a : Engine → Answers A → Type 0) {H : Engine → Type 0} → ((L : Engine) → H L) → Throughout E a H
  through_always a {H = H} f = record {
    always = always_so {A = H} (λ k B b. f (E k B b));
    without_one = λ q e. always_so {A = λ L. H (without L q e) ⊎ EndsNow (a (without L q e)) e} (λ k B b. inl (f (without (E k B b) q e)));
  }

-- ---- in the first part of what is left

module _ {A : Type 0} (rest : Answers A) (now after : Answers A → Type 0) where
  pub before_gives : (x : A) → Gives now x after → Gives (Before rest now) x (Before rest after)
  before_gives x g p (r, n, e) = let h = g r n in (and_those h.0 rest, e ∙ ap (λ z. and_those z rest) h.1, (h.0, h.2, refl))

  pub before_over : IsOver now → Passes (Before rest now) (λ p. p ≡ rest)
  before_over g p (r, n, e) = e ∙ ap (λ z. and_those z rest) (g r n)

  pub before_passes : Passes now after → Passes (Before rest now) (Before rest after)
  before_passes g p (r, n, e) = (r, g r n, e)

  pub before_ends : (e : End) → EndsNow now e → EndsNow (Before rest now) e
  before_ends f g p (r, n, e) = e ∙ ap (λ z. and_those z rest) (g r n)

-- ---- turns in a row

module _ {A : Type 0} (P : Program) (b : ℕ) (old now new : Engine → Answers A → Type 0) (o : Option A) (passed : Throughout (engine_of P) old (λ L. Passes (old L) (now L))) where
  pub due_then : (e : EvalEnd) → IsDueBy P b now e → IsDueBy P b old e
  due_then Stopped h = then_due (engine_of P) old now passed P levels_of_condition b stopped h
  due_then TooDeep h = then_due (engine_of P) old now passed P levels_of_condition b too_deep h
  due_then Overflow h = then_due (engine_of P) old now passed P levels_of_condition b overflowed h
  due_then NoMemory h = tt

  pub found_then : IsTurn P b now new o (Ok Found) → IsNextOne P b old new o (Ok true)
  found_then (x, e, t) = (x, e, then_gives (engine_of P) old now passed x new t)

  pub passed_then : IsTurn P b now new o (Ok Passed) → Throughout (engine_of P) old (λ L. Passes (old L) (new L))
  passed_then t = then_pass (engine_of P) old now passed new t

  pub over_then : IsTurn P b now new o (Ok Over) → IsNextOne P b old new o (Ok false)
  over_then t = then_over (engine_of P) old now passed t

  pub ends_then : (e : EvalEnd) → IsTurn P b now new o (Err e) → IsNextOne P b old new o (Err e)
  ends_then e (t, d) = (then_pass (engine_of P) old now passed new t, due_then e d)

-- at the beginning nothing has passed
pub none_passed : {A : Type 0} (P : Program) (now : Engine → Answers A → Type 0) → Throughout (engine_of P) now (λ L. Passes (now L) (now L))
none_passed P now = through_always (engine_of P) now {H = λ L. Passes (now L) (now L)} (λ L p n. n)

-- ---- steps in the first part, throughout

module _ {A : Type 0} (E : Engines) (rest : Engine → Answers A) (now after : Engine → Answers A → Type 0) where
  pub first_gives : (x : A) → Throughout E now (λ L. Gives (now L) x (after L)) → Throughout E (λ L. Before (rest L) (now L)) (λ L. Gives (Before (rest L) (now L)) x (Before (rest L) (after L)))
  first_gives x =
      through_as E now (λ L. Before (rest L) (now L)) {H = λ L. Gives (now L) x (after L)} {K = λ L. Gives (Before (rest L) (now L)) x (Before (rest L) (after L))}
      (λ L h. before_gives (rest L) (now L) (after L) x h) (λ L e h. before_ends (rest L) (now L) (after L) e h)

  pub first_passes : Throughout E now (λ L. Passes (now L) (after L)) → Throughout E (λ L. Before (rest L) (now L)) (λ L. Passes (Before (rest L) (now L)) (Before (rest L) (after L)))
  first_passes =
      through_as E now (λ L. Before (rest L) (now L)) {H = λ L. Passes (now L) (after L)} {K = λ L. Passes (Before (rest L) (now L)) (Before (rest L) (after L))}
      (λ L h. before_passes (rest L) (now L) (after L) h) (λ L e h. before_ends (rest L) (now L) (after L) e h)

  pub first_over : Throughout E now (λ L. IsOver (now L)) → Throughout E (λ L. Before (rest L) (now L)) (λ L. Passes (Before (rest L) (now L)) (λ p. p ≡ rest L))
  first_over =
      through_as E now (λ L. Before (rest L) (now L)) {H = λ L. IsOver (now L)} {K = λ L. Passes (Before (rest L) (now L)) (λ p. p ≡ rest L)}
      (λ L h. before_over (rest L) (now L) (after L) h) (λ L e h. before_ends (rest L) (now L) (after L) e h)

module _ {A : Type 0} (P : Program) (b : ℕ) (rest : Engine → Answers A) (now : Engine → Answers A → Type 0) where
  pub first_due : (e : EvalEnd) → IsDueBy P b now e → IsDueBy P b (λ L. Before (rest L) (now L)) e
  first_due Stopped h = due_as (engine_of P) now (λ L. Before (rest L) (now L)) (λ L e k. before_ends (rest L) (now L) (now L) e k) P levels_of_condition b stopped h
  first_due TooDeep h = due_as (engine_of P) now (λ L. Before (rest L) (now L)) (λ L e k. before_ends (rest L) (now L) (now L) e k) P levels_of_condition b too_deep h
  first_due Overflow h = due_as (engine_of P) now (λ L. Before (rest L) (now L)) (λ L e k. before_ends (rest L) (now L) (now L) e k) P levels_of_condition b overflowed h
  first_due NoMemory h = tt
