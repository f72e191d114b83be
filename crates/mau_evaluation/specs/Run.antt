-- Computations with a budget of applications: what they give, count and leave, or how they end.
use Rattle.std.specs.Prelude.{◌≡◌, ℕ, zero, suc, ◌+◌, ◌≤◌, Bool, true, false, List, [], ◌∷◌, Option, Some, None}

-- how a computation ends without a value
pub data End : Type 0 where
  -- an application was due and the budget was used up
  stopped : End
  -- more levels or a deeper term would have been needed
  too_deep : End
  -- the successor of the greatest numeral would have been needed, or a built-in overflowed
  overflowed : End

pub data Outcome (A : Type 0) : Type 0 where
  -- a value, the number of applications counted, and the budget left
  done : A → ℕ → ℕ → Outcome A
  ended : End → Outcome A

-- what comes of each budget
abbrev pub Run : Type 0 → Type 0
Run A = ℕ → Outcome A

-- x, with nothing counted and nothing spent
abbrev pub gives : {A : Type 0} → A → Run A
gives x = λ b. done x 0 b

-- the end e, whatever the budget
abbrev pub ends : {A : Type 0} → End → Run A
ends e = λ b. ended e

-- r more are counted
abbrev pub counted : {A : Type 0} → ℕ → Outcome A → Outcome A
counted r (done x q b) = done x (r + q) b
counted r (ended e) = ended e

-- k goes on with the value and with what is left
abbrev pub go_on : {A B : Type 0} → (A → Run B) → Outcome A → Outcome B
go_on k (done x r b) = counted r (k x b)
go_on k (ended e) = ended e

-- m, and then k of its value; an end of either is the end
abbrev pub and_then : {A B : Type 0} → Run A → (A → Run B) → Run B
and_then m k = λ b. go_on k (m b)

-- r more are counted where there is a value, and nothing where there is none
abbrev pub counted_if : {A : Type 0} → ℕ → Outcome (Option A) → Outcome (Option A)
counted_if r (done (Some x) q b) = done (Some x) (r + q) b
counted_if r (done None q b) = done None 0 b
counted_if r (ended e) = ended e

-- k goes on with the value and with what is left, and may fail
abbrev pub try_on : {A B : Type 0} → (A → Run (Option B)) → Outcome A → Outcome (Option B)
try_on k (done x r b) = counted_if r (k x b)
try_on k (ended e) = ended e

-- m, and then k of its value, which may fail: a failure has used the budget and counts nothing
abbrev pub and_try : {A B : Type 0} → Run A → (A → Run (Option B)) → Run (Option B)
and_try m k = λ b. try_on k (m b)

-- an application, which takes 1 from the budget and counts 1, and then m
abbrev pub spend : {A : Type 0} → Run A → ℕ → Outcome A
spend m zero = ended stopped
spend m (suc b) = counted 1 (m b)

-- the same as a computation
abbrev pub spending : {A : Type 0} → Run A → Run A
spending m = λ b. spend m b

-- the value that there is, or else what k gives with what is left
abbrev pub or_go_on : {A : Type 0} → Run (Option A) → Outcome (Option A) → Outcome (Option A)
or_go_on k (done (Some x) r b) = done (Some x) r b
or_go_on k (done None r b) = k b
or_go_on k (ended e) = ended e

-- m's value; or, where m fails, k with the budget that m left
abbrev pub or_else : {A : Type 0} → Run (Option A) → Run (Option A) → Run (Option A)
or_else m k = λ b. or_go_on k (m b)

-- the value alone, with the budget b again and nothing counted
abbrev pub put_back : {A : Type 0} → ℕ → Outcome A → Outcome A
put_back b (done x r c) = done x 0 b
put_back b (ended e) = ended e

-- m with n as a budget of its own: it takes nothing from the budget and counts nothing
abbrev pub apart : {A : Type 0} → ℕ → Run A → Run A
apart n m = λ b. put_back b (m n)

-- the first value that f gives on the elements of a list, from left to right
abbrev pub first_of : {A B : Type 0} → (A → Run (Option B)) → List A → Run (Option B)
first_of f [] = gives None
first_of f (x ∷ xs) = or_else (f x) (first_of f xs)

-- the values of f on the elements of a list, from left to right
abbrev pub each_in_turn : {A B : Type 0} → (A → Run B) → List A → Run (List B)
each_in_turn f [] = gives []
each_in_turn f (x ∷ xs) = and_then (f x) (λ y. and_then (each_in_turn f xs) (λ ys. gives (y ∷ ys)))

-- m or k, as the test says
abbrev pub choose : {A : Type 0} → Bool → Run A → Run A → Run A
choose true m k = m
choose false m k = k

-- m where the test holds, and else a failure
abbrev pub where_true : {A : Type 0} → Bool → Run (Option A) → Run (Option A)
where_true true m = m
where_true false m = gives None

-- ---- budgets fall

-- what was counted and what is left are together at most the budget
abbrev pub IsLeft : {A : Type 0} → ℕ → Outcome A → Type 0
IsLeft b (done x r c) = r + c ≤ b
IsLeft b (ended e) = Unit {0}

-- from each budget
abbrev pub NeverRises : {A : Type 0} → Run A → Type 0
NeverRises m = (b : ℕ) → IsLeft b (m b)

-- ---- what only proofs cite

-- a value of o is that of o' too, which has d more left; an overflow of o is one of o'
abbrev pub IsLarger : {A : Type 0} → ℕ → Outcome A → Outcome A → Type 0
IsLarger d (done x r b) o = o ≡ done x r (b + d)
IsLarger d (ended stopped) o = Unit {0}
IsLarger d (ended too_deep) o = Unit {0}
IsLarger d (ended overflowed) o = o ≡ ended overflowed

-- with d more budget the second gives what the first gives
abbrev pub Grows : {A : Type 0} → Run A → Run A → Type 0
Grows m m' = (b d : ℕ) → IsLarger d (m b) (m' (b + d))

-- the same from each budget up to n
abbrev pub SameUpTo : {A : Type 0} → ℕ → Run A → Run A → Type 0
SameUpTo n m m' = (b : ℕ) → b ≤ n → m b ≡ m' b
