-- The laws of evaluation, conditions and sorts.
use Rattle.std.specs.Prelude.{◌≡◌, ℕ, suc, ◌+◌, ◌≤◌, List, Option, Some, None}
use Rattle.mau_terms.specs.Tree.{Tree}
use Rattle.mau_evaluation.specs.Run.{overflowed, done, ended, Run, and_then, NeverRises}
use Rattle.mau_evaluation.specs.Program.{Fragment, Program}
use Rattle.mau_evaluation.specs.Evaluation.{Binding, levels, admit, on_normal, eval, sorts_at, solve_at, solve_after_at}

-- f is a computation for each number of levels and each budget of a membership's condition. Under larger limits it has the same value and count, and
-- leaves what it left and what was added; and an overflow stays
abbrev pub StaysTheSame : {A : Type 0} → (ℕ → ℕ → Run A) → Type 0
StaysTheSame {A = A} f = (k k' B B' b c : ℕ) → k ≤ k' → B ≤ B' →
    ((x : A) (r b' : ℕ) → f k B b ≡ done x r b' → f k' B' (b + c) ≡ done x r (b' + c)) × (f k B b ≡ ended overflowed → f k' B' (b + c) ≡ ended overflowed)

-- where an evaluation has a value or an overflow, it has the same under larger limits
abbrev pub EvaluationStays : Type 0
EvaluationStays = (P : Program) (t : Tree) → StaysTheSame (λ k B. eval P k B t)

-- so do known sorts
abbrev pub SortsStay : Type 0
SortsStay = (P : Program) (t : Tree) → StaysTheSame (λ k B. sorts_at P k B t)

-- so do conditions that are Yes, which is `Some`, or No, which is `None`
abbrev pub SolvingStays : Type 0
SolvingStays = (P : Program) (c : List Fragment) (σ : Binding) → StaysTheSame (λ k B. solve_at P k B c σ)

-- also behind a solution
abbrev pub SolvingAfterStays : Type 0
SolvingAfterStays = (P : Program) (last : Binding) (c : List Fragment) (σ : Binding) → StaysTheSame (λ k B. solve_after_at P k B last c σ)

-- for some limits the value is x, with the count r
pub record Comes {A : Type 0} (f : ℕ → ℕ → Run A) (x : A) (r : ℕ) : Type 0 where
  pub level : ℕ
  pub each : ℕ
  pub budget : ℕ
  pub left : ℕ
  pub comes : f level each budget ≡ done x r left

-- what comes for some limits is one value, with one count
abbrev pub IsOne : {A : Type 0} → (ℕ → ℕ → Run A) → Type 0
IsOne {A = A} f = (x y : A) (r q : ℕ) → Comes f x r → Comes f y q → (x ≡ y) × (r ≡ q)

abbrev pub ValuesAreOne : Type 0
ValuesAreOne = ((P : Program) (t : Tree) → IsOne (λ k B. eval P k B t)) × ((P : Program) (c : List Fragment) (σ : Binding) → IsOne (λ k B. solve_at P k B c σ)) × ((P : Program) (t : Tree) → IsOne (λ k B. sorts_at P k B t))

-- Yes and No exclude each other, for whatever limits
abbrev pub YesExcludesNo : Type 0
YesExcludesNo = (P : Program) (c : List Fragment) (σ σ' : Binding) (r q : ℕ) → Comes (λ k B. solve_at P k B c σ) (Some σ') r → Comes (λ k B. solve_at P k B c σ) None q → ⊥

-- it is Yes for some limits
abbrev pub IsYes : {A : Type 0} → (ℕ → ℕ → Run (Option A)) → Type 0
IsYes {A = A} f = (x : A) × (r : ℕ) × Comes f (Some x) r

-- it is No for some limits
abbrev pub IsNo : {A : Type 0} → (ℕ → ℕ → Run (Option A)) → Type 0
IsNo f = (r : ℕ) × Comes f None r

-- what an evaluation or a condition counts and what it leaves are together at most its budget
abbrev pub BudgetsFall : Type 0
BudgetsFall = ((P : Program) (k B : ℕ) (t : Tree) → NeverRises (eval P k B t)) × ((P : Program) (k B : ℕ) (c : List Fragment) (σ : Binding) → NeverRises (solve_at P k B c σ))

-- an evaluation is a round: the normal form, the values of the arguments, and an application at the top; and then an evaluation on the same level
-- with the budget that is left
abbrev pub EvaluationGoesOn : Type 0
EvaluationGoesOn = (P : Program) (k B : ℕ) (t : Tree) (b : ℕ) → eval P (suc k) B t b ≡ and_then (admit P.sign.theory t) (on_normal P (levels P B k) (levels P B (suc k)).sorts (eval P (suc k) B)) b
