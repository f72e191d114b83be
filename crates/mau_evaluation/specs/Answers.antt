-- What comes one after another when it is asked for: answers in order, and then no more, or an end.
use Rattle.std.specs.Prelude.{◌≡◌, ℕ, List, [], ◌∷◌, Bool, true, false, Option, Some, None}
use Rattle.mau_evaluation.specs.Run.{End, stopped, too_deep, overflowed, Outcome, done, ended, Run}

pub data Answers (A : Type 0) : Type 0 where
  no_more : Answers A
  ends_by : End → Answers A
  answer : A → Answers A → Answers A

-- just these
abbrev pub answers_of : {A : Type 0} → List A → Answers A
answers_of [] = no_more
answers_of (x ∷ xs) = answer x (answers_of xs)

-- these, and then p: what was given, and what is left
abbrev pub before : {A : Type 0} → List A → Answers A → Answers A
before [] p = p
before (x ∷ xs) p = answer x (before xs p)

-- p, and then q
abbrev pub and_those : {A : Type 0} → Answers A → Answers A → Answers A
and_those no_more q = q
and_those (ends_by e) q = ends_by e
and_those (answer x p) q = answer x (and_those p q)

-- what f gives for each
abbrev pub for_each : {A B : Type 0} → (A → Answers B) → Answers A → Answers B
for_each f no_more = no_more
for_each f (ends_by e) = ends_by e
for_each f (answer x p) = and_those (f x) (for_each f p)

abbrev pub from_outcome : {A B : Type 0} → (A → Answers B) → Outcome A → Answers B
from_outcome f (done x r c) = f x
from_outcome f (ended e) = ends_by e

-- what f gives for what a computation gives from the budget b
abbrev pub asking : {A B : Type 0} → ℕ → Run A → (A → Answers B) → Answers B
asking b m f = from_outcome f (m b)

abbrev pub when : {A : Type 0} → Bool → Answers A → Answers A
when true p = p
when false p = no_more

-- ---- the same under larger limits: answers stay, in order, and so do the last one and Overflow

abbrev pub IsLonger : {A : Type 0} → Answers A → Answers A → Type 0
IsLonger no_more q = q ≡ no_more
IsLonger (ends_by stopped) q = Unit {0}
IsLonger (ends_by too_deep) q = Unit {0}
IsLonger (ends_by overflowed) q = q ≡ ends_by overflowed
IsLonger {A = A} (answer x p) q = (q' : Answers A) × (q ≡ answer x q') × IsLonger p q'

-- ---- what a computation gives is the first of the answers

abbrev pub FirstBy : {A : Type 0} → Outcome (Option A) → Answers A → Type 0
FirstBy {A = A} (done (Some x) r c) p = (q : Answers A) × (p ≡ answer x q)
FirstBy (done None r c) p = p ≡ no_more
FirstBy (ended e) p = Unit {0}
