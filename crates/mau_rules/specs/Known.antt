-- What is known of a computation under limits, once calls of an evaluator have answered. f k B b is what is computed where terms have k + 1 levels and
-- conditions k, where each condition of a membership has the budget B, from the budget b.
use Rattle.std.specs.Prelude.{◌≡◌, ◌⊎◌, ◌≤◌, ◌+◌, ℕ, Bool, false, Option, Some, None}
use Rattle.mau_evaluation.specs.Run.{End, stopped, too_deep, overflowed, Outcome, done, ended, Run}

-- the limits of an item: the levels of its conditions, and the budget of each condition of a membership; whether remembered results are used; and that no
-- membership is executable, so that no sort is derived
pub record Item : Type 1 where
  pub least : ℕ
  pub limit : ℕ
  pub uses : Bool
  pub plain : Type 0

-- more levels, or more budget, would have been needed
abbrev pub IsCut : {A : Type 0} → Outcome A → Type 0
IsCut o = (o ≡ ended too_deep) ⊎ (o ≡ ended stopped)

-- it is x, with the count r, and at most so much is left; or it is cut
pub data Leaves {A : Type 0} (x : A) (r after : ℕ) (o : Outcome A) : Type 0 where
  cut : IsCut o → Leaves x r after o
  left_of : (l : ℕ) → o ≡ done x r l → l ≤ after → Leaves x r after o

-- For just the budgets given it is o: for some levels, no fewer than an item has, and for more; with fewer it may be too deep, since a sort that is kept was
-- derived by more. Where no membership is executable these are just the levels of an item
pub record IsExactly (I : Item) {A : Type 0} (f : ℕ → ℕ → Run A) (before : ℕ) (o : Outcome A) : Type 0 where
  pub level : ℕ
  pub enough : I.least ≤ level
  pub just : I.plain → level ≡ I.least
  pub above : (k : ℕ) → level ≤ k → f k I.limit before ≡ o
  pub below : (k : ℕ) → I.least ≤ k → (f k I.limit before ≡ ended too_deep) ⊎ (f k I.limit before ≡ o)

-- the computation has the value x with the count r, where `before` was there and `after` is left
pub record Gives (I : Item) {A : Type 0} (f : ℕ → ℕ → Run A) (before : ℕ) (x : A) (r after : ℕ) : Type 0 where
  -- for all limits from some on
  pub level : ℕ
  pub each : ℕ
  pub budget : ℕ
  pub left : ℕ
  pub comes : (k B c : ℕ) → level ≤ k → each ≤ B → f k B (budget + c) ≡ done x r (left + c)
  -- with just the levels of an item it may be too deep
  pub shallow : (B c : ℕ) → each ≤ B → (f I.least B (budget + c) ≡ ended too_deep) ⊎ (f I.least B (budget + c) ≡ done x r (left + c))
  -- by the limits of an item it leaves no more than is left
  pub leaves : (b : ℕ) → b ≤ before → Leaves x r after (f I.least I.limit b)
  pub exact : I.uses ≡ false → IsExactly I f before (done x r after)

-- it was stopped where `before` was there
pub record Stops (I : Item) {A : Type 0} (f : ℕ → ℕ → Run A) (before : ℕ) : Type 0 where
  pub item : (b : ℕ) → b ≤ before → IsCut (f I.least I.limit b)
  pub exact : I.uses ≡ false → IsExactly I f before (ended stopped)

-- it is too deep with the levels of an item, for all budgets from some on
pub record IsTooDeep (I : Item) {A : Type 0} (f : ℕ → ℕ → Run A) (before : ℕ) : Type 0 where
  pub each : ℕ
  pub budget : ℕ
  pub deep : (B c : ℕ) → each ≤ B → f I.least B (budget + c) ≡ ended too_deep
  pub exact : I.uses ≡ false → f I.least I.limit before ≡ ended too_deep

-- it overflows, for all limits from some on
pub record Overflows (I : Item) {A : Type 0} (f : ℕ → ℕ → Run A) (before : ℕ) : Type 0 where
  pub level : ℕ
  pub each : ℕ
  pub budget : ℕ
  pub comes : (k B c : ℕ) → level ≤ k → each ≤ B → f k B (budget + c) ≡ ended overflowed
  pub exact : I.uses ≡ false → IsExactly I f before (ended overflowed)

abbrev pub Fails : (I : Item) {A : Type 0} → (ℕ → ℕ → Run A) → ℕ → End → Type 0
Fails I f before stopped = Stops I f before
Fails I f before too_deep = IsTooDeep I f before
Fails I f before overflowed = Overflows I f before

-- what a call says: a value with its count, an end, or nothing for want of memory
pub data Got (A : Type 0) : Type 0 where
  got : A → ℕ → Got A
  fails : End → Got A
  nothing : Got A

abbrev pub Known : (I : Item) {A : Type 0} → (ℕ → ℕ → Run A) → ℕ → Got A → ℕ → Type 0
Known I f before (got x r) after = Gives I f before x r after
Known I f before (fails e) after = Fails I f before e
Known I f before nothing after = Unit {0}

-- the same with r more counted
abbrev pub more : {A : Type 0} → ℕ → Got A → Got A
more r (got x q) = got x (r + q)
more r (fails e) = fails e
more r nothing = nothing

-- where there is none nothing is counted
abbrev pub more_if : {A : Type 0} → ℕ → Got (Option A) → Got (Option A)
more_if r (got (Some x) q) = got (Some x) (r + q)
more_if r (got None q) = got None 0
more_if r (fails e) = fails e
more_if r nothing = nothing

-- what is known of g with the budget b' is known of f with the budget b
pub record GoesOn (I : Item) {A : Type 0} (f : ℕ → ℕ → Run A) (b : ℕ) (g : ℕ → ℕ → Run A) (b' : ℕ) : Type 0 where
  pub known : (o : Got A) (after : ℕ) → Known I g b' o after → Known I f b o after
