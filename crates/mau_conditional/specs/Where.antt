-- Solutions that are shown where a condition holds under them, one after another; the asking for one has what those before it left of a budget.
use Rattle.std.specs.Prelude.{◌≡◌, ℕ, zero, suc, List, [], ◌∷◌, Bool, true, false, Option, Some, None}
use Rattle.std.specs.declared.cmp.Ordering.{Ordering}
use Rattle.mau_evaluation.specs.Run.{End, Outcome, done, ended}
use Rattle.mau_evaluation.specs.Evaluation.{Binding}
use Rattle.mau_listing.specs.Matcher.{Matcher}
use Rattle.mau_listing.specs.Next.{IsNext}

-- how a listing is left: no solution is left, or as many are shown as are asked for, or the asking ended so
pub data Ending : Type 0 where
  no_more : Ending
  bound_reached : Ending
  ends_by : End → Ending

-- where at most so many are asked for, or all: one at least is, and how many are behind one
abbrev pub wants_one : Option ℕ → Bool
wants_one None = true
wants_one (Some zero) = false
wants_one (Some (suc n)) = true

abbrev pub one_fewer : Option ℕ → Option ℕ
one_fewer None = None
one_fewer (Some zero) = Some zero
one_fewer (Some (suc n)) = Some n

-- What is shown behind the last solution with a budget, where `Is` says what a solution is, `cmp` in which order they come, and `asks` what may come of asking for one
-- with a budget: a binding where the condition holds under it, and none where it does not; what is left of the budget is that of the next one.
pub data ShowsWhere (Is : Matcher → Type 0) (cmp : Matcher → Matcher → Ordering) (asks : Matcher → ℕ → Outcome (Option Binding) → Type 0) :
    Option Matcher → ℕ → Option ℕ → List Matcher → Ending → Type 0 where
  -- as many are shown as are asked for
  enough_shown : (last : Option Matcher) (b : ℕ) (most : Option ℕ) → wants_one most ≡ false → ShowsWhere Is cmp asks last b most [] bound_reached
  -- no solution is left
  all_shown : (last : Option Matcher) (b : ℕ) (most : Option ℕ) → wants_one most ≡ true → IsNext Is cmp last None → ShowsWhere Is cmp asks last b most [] no_more
  -- the condition holds under the next one, which is shown
  one_shown : (last : Option Matcher) (b : ℕ) (most : Option ℕ) (x : Matcher) (σ : Binding) (r left : ℕ) (found : List Matcher) (e : Ending) → wants_one most ≡ true
      → IsNext Is cmp last (Some x) → asks x b (done (Some σ) r left) → ShowsWhere Is cmp asks (Some x) left (one_fewer most) found e → ShowsWhere Is cmp asks last b most (x ∷ found) e
  -- it does not, and the next one is passed over
  one_passed : (last : Option Matcher) (b : ℕ) (most : Option ℕ) (x : Matcher) (r left : ℕ) (found : List Matcher) (e : Ending) → wants_one most ≡ true
      → IsNext Is cmp last (Some x) → asks x b (done None r left) → ShowsWhere Is cmp asks (Some x) left most found e → ShowsWhere Is cmp asks last b most found e
  -- the asking ends
  asking_ends : (last : Option Matcher) (b : ℕ) (most : Option ℕ) (x : Matcher) (e : End) → wants_one most ≡ true
      → IsNext Is cmp last (Some x) → asks x b (ended e) → ShowsWhere Is cmp asks last b most [] (ends_by e)
