-- What is left within something else, which comes to an end where the first does.
use Rattle.std.proofs.Common.{◌≡◌, ℕ, refl, sym, ap, ◌∙◌, subst}
use Rattle.mau_evaluation.specs.Run.{End, stopped, too_deep, overflowed}
use Rattle.mau_evaluation.specs.Program.{Program}
use Rattle.mau_evaluation.specs.Engine.{Engine, Engines, engine_of}
use Rattle.mau_evaluation.specs.Answers.{Answers, ends_by, answer}
use Rattle.mau_api.specs.Answers.{levels_of_condition}
use Rattle.mau_api.specs.declared.results.EvalEnd.{EvalEnd}
use Rattle.mau_api.specs.declared.results.EvalEnd.TheVariants.{Stopped, TooDeep, Overflow, NoMemory}
use Rattle.mau_leaves.specs.Steps.{Gives, IsOver, Passes, EndsNow, Throughout}
use Rattle.mau_leaves.specs.Answers.{IsDueBy}
use Rattle.mau_leaves.specs.InTurn.{just}
use Rattle.mau_leaves.proofs.Steps.{through_as, through_always, due_as}

-- ends that are due, with other words for what is left
pub due_by_as : {A B : Type 0} (P : Program) (b : ℕ) (now : Engine → Answers A → Type 0) (then : Engine → Answers B → Type 0) → ((L : Engine) (e : End) → EndsNow (now L) e → EndsNow (then L) e) →
    (e : EvalEnd) → IsDueBy P b now e → IsDueBy P b then e
due_by_as P b now then f Stopped h = due_as (engine_of P) now then f P levels_of_condition b stopped h
due_by_as P b now then f TooDeep h = due_as (engine_of P) now then f P levels_of_condition b too_deep h
due_by_as P b now then f Overflow h = due_as (engine_of P) now then f P levels_of_condition b overflowed h
due_by_as P b now then f NoMemory h = tt

module _ {A B : Type 0} (f : Engine → Answers A) (T : Engine → Answers A → Answers B) (strict : (L : Engine) (e : End) → T L (ends_by e) ≡ ends_by e) where
  abbrev inside : Engine → Answers B → Type 0
  inside = just (λ L. T L (f L))

  ends_inside : (L : Engine) (e : End) → EndsNow (just f L) e → EndsNow (just (λ L. T L (f L)) L) e
  ends_inside L e h q n = n ∙ (ap (T L) (h (f L) refl) ∙ strict L e)

  pub step_inside : (E : Engines) {H K : Engine → Type 0} → ((L : Engine) → H L → K L) → Throughout E (just f) H → Throughout E (just (λ L. T L (f L))) K
  step_inside E {H = H} {K = K} g h = through_as E (just f) inside {H = H} {K = K} g ends_inside h

  pub due_inside : (P : Program) (b : ℕ) (e : EvalEnd) → IsDueBy P b (just f) e → IsDueBy P b (just (λ L. T L (f L))) e
  due_inside P b e h = due_by_as P b (just f) inside ends_inside e h

  -- what is left stays left
  pub passes_inside : (E : Engines) (g : Engine → Answers A) → Throughout E (just f) (λ L. Passes (just f L) (just g L)) →
      Throughout E (just (λ L. T L (f L))) (λ L. Passes (just (λ L. T L (f L)) L) (just (λ L. T L (g L)) L))
  passes_inside E g h =
      step_inside E {H = λ L. Passes (just f L) (just g L)} {K = λ L. Passes (inside L) (just (λ L. T L (g L)) L)} (λ L k q n. n ∙ ap (T L) (k (f L) refl)) h

  -- and then goes on
  pub goes_inside : (E : Engines) (g : Engine → Answers A) (then : Engine → Answers B → Type 0) → ((L : Engine) → then L (T L (g L))) → Throughout E (just f) (λ L. Passes (just f L) (just g L)) →
      Throughout E (just (λ L. T L (f L))) (λ L. Passes (just (λ L. T L (f L)) L) (then L))
  goes_inside E g then so h =
      step_inside E {H = λ L. Passes (just f L) (just g L)} {K = λ L. Passes (inside L) (then L)} (λ L k q n. subst (then L) (ap (T L) (sym (k (f L) refl)) ∙ sym n) (so L)) h

-- the same words
pub just_same : {A : Type 0} (E : Engines) (f g : Engine → Answers A) → ((L : Engine) → f L ≡ g L) → Throughout E (just f) (λ L. Passes (just f L) (just g L))
just_same E f g h = through_always E (just f) {H = λ L. Passes (just f L) (just g L)} (λ L q n. n ∙ h L)
