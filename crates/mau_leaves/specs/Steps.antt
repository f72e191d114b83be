-- What is left of answers that come one after another, as steps are taken: with engines from some limits on, and with engines that have no answer to some question.
use Rattle.std.specs.Prelude.{◌≡◌, ℕ, [], ◌⊎◌}
use Rattle.mau_evaluation.specs.Run.{End}
use Rattle.mau_evaluation.specs.Program.{Program}
use Rattle.mau_evaluation.specs.Engine.{Engine, Engines}
use Rattle.mau_evaluation.specs.Answers.{Answers, no_more, ends_by, answer, and_those}
use Rattle.mau_evaluation.specs.Eventually.{Eventually}
use Rattle.mau_evaluation.specs.Questions.{Question, without, EndsUnder}

-- ---- with one engine, where `now` and `after` say what is left before a step and behind it

-- of what is left, x comes first, and the rest is left behind the step
abbrev pub Gives : {A : Type 0} → (Answers A → Type 0) → A → (Answers A → Type 0) → Type 0
Gives {A = A} now x after = (p : Answers A) → now p → (q : Answers A) × (p ≡ answer x q) × after q

-- nothing is left
abbrev pub IsOver : {A : Type 0} → (Answers A → Type 0) → Type 0
IsOver {A = A} now = (p : Answers A) → now p → p ≡ no_more

-- what is left stays left
abbrev pub Passes : {A : Type 0} → (Answers A → Type 0) → (Answers A → Type 0) → Type 0
Passes {A = A} now after = (p : Answers A) → now p → after p

-- an end is left
abbrev pub EndsNow : {A : Type 0} → (Answers A → Type 0) → End → Type 0
EndsNow {A = A} now e = (p : Answers A) → now p → p ≡ ends_by e

-- what now says of the first part, before p
abbrev pub Before : {A : Type 0} → Answers A → (Answers A → Type 0) → Answers A → Type 0
Before {A = A} p now q = (r : Answers A) × now r × (q ≡ and_those r p)

-- ---- with engines at all limits

-- from some limits on it holds; and with engines that have no answer to a question it holds too, or an end is left there
pub record Throughout {A : Type 0} (E : Engines) (now : Engine → Answers A → Type 0) (Holds : Engine → Type 0) : Type 0 where
  pub always : Eventually E Holds
  pub without_one : (q : Question) (e : End) → Eventually E (λ L. Holds (without L q e) ⊎ EndsNow (now (without L q e)) e)

-- With so many levels and this budget a question comes to the end e; and without the question an end is left.
pub record IsDue {A : Type 0} (P : Program) (E : Engines) (k b : ℕ) (now : Engine → Answers A → Type 0) (e : End) : Type 0 where
  pub question : Question
  pub ends : EndsUnder P E [] k b question e
  pub needs : (f : End) → Eventually E (λ L. EndsNow (now (without L question f)) f)
