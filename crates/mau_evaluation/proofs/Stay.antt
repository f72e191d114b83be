-- The laws of larger limits, as they are stated.
use Rattle.std.proofs.Common.{◌≡◌, ℕ, ◌+◌, ◌-◌, ◌≤◌, List, Option, Some, None, sym, ◌∙◌, ap, subst, arith}
use Rattle.mau_terms.specs.Tree.{Tree}
use Rattle.mau_terms.specs.Norm.{norm}
use Rattle.mau_terms.specs.Subst.{Variable}
use Rattle.mau_evaluation.specs.Run.{Outcome, done, ended, Run, IsLarger, Grows}
use Rattle.mau_evaluation.specs.Program.{Program}
use Rattle.mau_evaluation.specs.Evaluation.{Binding, levels, eval, sorts_at, solve_at, solve_after_at, have_sorts}
use Rattle.mau_evaluation.specs.Larger.{IsLargerLevel}
use Rattle.mau_evaluation.specs.Laws.{StaysTheSame, EvaluationStays, SortsStay, SolvingStays, SolvingAfterStays, IsOne, ValuesAreOne, YesExcludesNo}
use Rattle.mau_evaluation.proofs.Levels.{levels_grow, have_sorts_grow, solve_grows, solve_after_grows}

pub stays : {A : Type 0} (f : ℕ → ℕ → Run A) → ((k k' B B' : ℕ) → k ≤ k' → B ≤ B' → Grows (f k B) (f k' B')) → StaysTheSame f
stays f g k k' B B' b c h i = (
  λ x r b' e. subst (λ o. IsLarger c o (f k' B' (b + c))) e (g k k' B B' h i b c),
  λ e. subst (λ o. IsLarger c o (f k' B' (b + c))) e (g k k' B B' h i b c),
)

difference : (m n : ℕ) → m ≤ n → n ≡ m + (n - m)
difference m n h = omega arith

pub larger : (P : Program) (k k' B B' : ℕ) → k ≤ k' → B ≤ B' → IsLargerLevel (levels P B k) (levels P B' k')
larger P k k' B B' h i = levels_grow P B B' (B' - B) (difference B B' i) k k' h

pub having_sorts_stays : (P : Program) (xs : List Variable) (vs : List Tree) → StaysTheSame (λ k B. have_sorts (levels P B k).sorts xs vs)
having_sorts_stays P xs vs = stays (λ k B. have_sorts (levels P B k).sorts xs vs) λ k k' B B' h i. have_sorts_grow (levels P B k).sorts (levels P B' k').sorts (larger P k k' B B' h i).sorts_grow xs vs

pub evaluation_stays : EvaluationStays
evaluation_stays P t = stays (λ k B. eval P k B t) λ k k' B B' h i. (larger P k k' B B' h i).eval_grows t

pub sorts_stay : SortsStay
sorts_stay P t = stays (λ k B. sorts_at P k B t) λ k k' B B' h i. (larger P k k' B B' h i).sorts_grow (norm P.sign.theory t)

pub solving_stays : SolvingStays
solving_stays P c σ = stays (λ k B. solve_at P k B c σ) λ k k' B B' h i. solve_grows P (levels P B k) (levels P B' k') (larger P k k' B B' h i) c σ

pub solving_after_stays : SolvingAfterStays
solving_after_stays P last c σ = stays (λ k B. solve_after_at P k B last c σ) λ k k' B B' h i. solve_after_grows P (levels P B k) (levels P B' k') (larger P k k' B B' h i) last c σ

-- ---- one value

abbrev value_of : {A : Type 0} → A → Outcome A → A
value_of x (done y r b) = y
value_of x (ended e) = x

abbrev count_of : {A : Type 0} → Outcome A → ℕ
count_of (done y r b) = r
count_of (ended e) = 0

pub one_done : {A : Type 0} (x y : A) (r q b c : ℕ) → done x r b ≡ done y q c → (x ≡ y) × (r ≡ q)
one_done x y r q b c e = (ap (value_of x) e, ap count_of e)

same_sum : (b c : ℕ) → b + c ≡ c + b
same_sum b c = omega arith

left_le : (m n : ℕ) → m ≤ m + n
left_le m n = omega arith

right_le : (m n : ℕ) → n ≤ m + n
right_le m n = omega arith

pub stays_one : {A : Type 0} (f : ℕ → ℕ → Run A) → StaysTheSame f → IsOne f
stays_one f s x y r q p o =
    let e : f (p.level + o.level) (p.each + o.each) (p.budget + o.budget) ≡ done x r (p.left + o.budget)
    = (s p.level (p.level + o.level) p.each (p.each + o.each) p.budget o.budget (left_le p.level o.level) (left_le p.each o.each)).0 x r p.left p.comes in
    let e' : f (p.level + o.level) (p.each + o.each) (o.budget + p.budget) ≡ done y q (o.left + p.budget)
    = (s o.level (p.level + o.level) o.each (p.each + o.each) o.budget p.budget (right_le p.level o.level) (right_le p.each o.each)).0 y q o.left o.comes in
    one_done x y r q (p.left + o.budget) (o.left + p.budget)
    (sym e ∙ (ap (f (p.level + o.level) (p.each + o.each)) (same_sum p.budget o.budget) ∙ e'))

pub values_are_one : ValuesAreOne
values_are_one = (
  λ P t. stays_one (λ k B. eval P k B t) (evaluation_stays P t),
  λ P c σ. stays_one (λ k B. solve_at P k B c σ) (solving_stays P c σ),
  λ P t. stays_one (λ k B. sorts_at P k B t) (sorts_stay P t),
)

abbrev is_yes : Option Binding → Type 0
is_yes (Some σ) = Unit {0}
is_yes None = ⊥

pub yes_excludes_no : YesExcludesNo
yes_excludes_no P c σ σ' r q p o = subst is_yes ((stays_one (λ k B. solve_at P k B c σ) (solving_stays P c σ) (Some σ') None r q p o).0) tt
