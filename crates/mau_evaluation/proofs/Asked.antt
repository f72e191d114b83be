-- Asked for its first solution, a condition gives the first that is shown.
use Rattle.std.proofs.Common.{◌≡◌, ℕ, ◌+◌, ◌-◌, ◌≤◌, List, [], ◌∷◌, Bool, true, false, Option, Some, None, refl, sym, ap, subst, arith}
use Rattle.mau_terms.specs.Tree.{Tree}
use Rattle.mau_terms.specs.Subst.{variables, instance}
use Rattle.mau_evaluation.specs.Run.{Outcome, done, ended, Run, counted_if, try_on, and_try, or_go_on, or_else, first_of, where_true, IsLarger, Grows, IsLeft, NeverRises}
use Rattle.mau_evaluation.specs.Program.{Fragment, equals, matches, has_sort, reaches, Program}
use Rattle.mau_evaluation.specs.Listing.{same_tree, keep, Solution, solutions}
use Rattle.mau_evaluation.specs.Evaluation.{Binding, look_up, extend, agree, has_number, have_sorts, solve}
use Rattle.mau_evaluation.specs.Engine.{Engine}
use Rattle.mau_evaluation.specs.Answers.{Answers, no_more, answers_of, and_those, for_each, asking, from_outcome, when, FirstBy}
use Rattle.mau_evaluation.specs.OrderedLists.{shown}
use Rattle.mau_evaluation.specs.Larger.{IsLargerLevel}
use Rattle.mau_evaluation.proofs.Falls.{try_falls, where_falls, Falls, have_sorts_fall, solve_falls}
use Rattle.mau_evaluation.proofs.Levels.{have_sorts_grow}

-- it gives the first of these from each budget up to n
abbrev pub IsFirst : {A : Type 0} → ℕ → Run (Option A) → Answers A → Type 0
IsFirst n m p = (b : ℕ) → b ≤ n → FirstBy (m b) p

sum_of : (b n : ℕ) → b ≤ n → b + (n - b) ≡ n
sum_of b n h = omega arith

le_through : (r c b n : ℕ) → r + c ≤ b → b ≤ n → c ≤ n
le_through r c b n h i = omega arith

pub counted_first : {A : Type 0} (r : ℕ) (o : Outcome (Option A)) (p : Answers A) → FirstBy o p → FirstBy (counted_if r o) p
counted_first r (done (Some x) q b) p h = h
counted_first r (done None q b) p h = h
counted_first r (ended e) p h = h

-- what is done from a budget up to n is done from n, and leaves at most n there
pub done_at : {A : Type 0} (n : ℕ) (m : Run A) → Grows m m → NeverRises m → (b : ℕ) → b ≤ n → (x : A) (r c : ℕ) → m b ≡ done x r c → (c ≤ n) × ((d : ℕ) × (m n ≡ done x r d))
done_at n m g f b i x r c e =
    let k = subst (λ o. IsLarger (n - b) o (m (b + (n - b)))) e (g b (n - b)) in
    let l = subst (IsLeft b) e (f b) in
    (le_through r c b n l i, (c + (n - b), subst (λ z. m z ≡ done x r (c + (n - b))) (sum_of b n i) k))

pub first_try : {A B : Type 0} (n : ℕ) (m : Run A) (k : A → Run (Option B)) (f : A → Answers B) → Grows m m → NeverRises m → ((x : A) → IsFirst n (k x) (f x)) → IsFirst n (and_try m k) (asking n m f)
first_try {A = A} n m k f g h first b i = by (m b) refl
  where
    by : (o : Outcome A) → m b ≡ o → FirstBy (try_on k o) (asking n m f)
    by (done x r c) e =
        let d = done_at n m g h b i x r c e in
        subst (λ z. FirstBy (counted_if r (k x c)) (from_outcome f z)) (sym d.1.1) (counted_first r (k x c) (f x) (first x c d.0))
    by (ended e) q = tt

pub first_where : {A : Type 0} (n : ℕ) (t : Bool) (m : Run (Option A)) (p : Answers A) → IsFirst n m p → IsFirst n (where_true t m) (when t p)
first_where n true m p h = h
first_where n false m p h = λ b i. refl

pub else_by : {A : Type 0} (n b : ℕ) → b ≤ n → (k : Run (Option A)) (o : Outcome (Option A)) (p q : Answers A) → IsLeft b o → FirstBy o p → IsFirst n k q → FirstBy (or_go_on k o) (and_those p q)
else_by n b i k (done (Some x) r c) p q l h g = (and_those h.0 q, ap (λ z. and_those z q) h.1)
else_by n b i k (done None r c) p q l h g = subst (λ z. FirstBy (k c) (and_those z q)) (sym h) (g c (le_through r c b n l i))
else_by n b i k (ended e) p q l h g = tt

pub first_else : {A : Type 0} (n : ℕ) (m k : Run (Option A)) (p q : Answers A) → NeverRises m → IsFirst n m p → IsFirst n k q → IsFirst n (or_else m k) (and_those p q)
first_else n m k p q f h g b i = else_by n b i k (m b) p q (f b) (h b i) g

pub first_first : {A B : Type 0} (n : ℕ) (f : A → Run (Option B)) (g : A → Answers B) → ((x : A) → NeverRises (f x)) → ((x : A) → IsFirst n (f x) (g x)) → (xs : List A) → IsFirst n (first_of f xs) (for_each g (answers_of xs))
first_first n f g h first [] = λ b i. refl
first_first n f g h first (x ∷ xs) = first_else n (f x) (first_of f xs) (g x) (for_each g (answers_of xs)) (h x) (first x) (first_first n f g h first xs)

module _ (P : Program) (L : Engine) (falls : Falls L.below) (grows : IsLargerLevel L.below L.below) where
  abbrev pub one : List Fragment → Binding → Tree → Solution → Run (Option Binding)
  one c σ p x = and_try (have_sorts L.below.sorts (variables p) x.values) λ ok. where_true ok (solve P L.below c (extend σ (variables p) x.values))

  pub one_falls : (c : List Fragment) (σ : Binding) (p : Tree) (x : Solution) → NeverRises (one c σ p x)
  one_falls c σ p x =
      try_falls (have_sorts L.below.sorts (variables p) x.values) (λ ok. where_true ok (solve P L.below c (extend σ (variables p) x.values))) (have_sorts_fall L.below.sorts falls.sorts_fall (variables p) x.values)
      λ ok. where_falls ok (solve P L.below c (extend σ (variables p) x.values)) (solve_falls P L.below falls c (extend σ (variables p) x.values))

  pub solve_first : (c : List Fragment) (σ : Binding) → IsFirst L.budget (solve P L.below c σ) (shown P L c σ)
  solve_first [] σ = λ b i. (no_more, refl)
  solve_first (equals t u ∷ c) σ =
      first_try L.budget (L.below.eval (instance (look_up σ) t)) (λ v. and_try (L.below.eval (instance (look_up σ) u)) λ w. where_true (same_tree v w) (solve P L.below c σ))
      (λ v. asking L.budget (L.below.eval (instance (look_up σ) u)) λ w. when (same_tree v w) (shown P L c σ)) (grows.eval_grows (instance (look_up σ) t)) (falls.eval_falls (instance (look_up σ) t))
      λ v. first_try L.budget (L.below.eval (instance (look_up σ) u)) (λ w. where_true (same_tree v w) (solve P L.below c σ)) (λ w. when (same_tree v w) (shown P L c σ))
      (grows.eval_grows (instance (look_up σ) u)) (falls.eval_falls (instance (look_up σ) u))
      λ w. first_where L.budget (same_tree v w) (solve P L.below c σ) (shown P L c σ) (solve_first c σ)
  solve_first (has_sort t s ∷ c) σ =
      first_try L.budget (L.below.eval (instance (look_up σ) t)) (λ v. and_try (L.below.sorts v) λ ss. where_true (has_number ss s) (solve P L.below c σ))
      (λ v. asking L.budget (L.below.sorts v) λ ss. when (has_number ss s) (shown P L c σ)) (grows.eval_grows (instance (look_up σ) t)) (falls.eval_falls (instance (look_up σ) t))
      λ v. first_try L.budget (L.below.sorts v) (λ ss. where_true (has_number ss s) (solve P L.below c σ)) (λ ss. when (has_number ss s) (shown P L c σ))
      (grows.sorts_grow v) (falls.sorts_fall v)
      λ ss. first_where L.budget (has_number ss s) (solve P L.below c σ) (shown P L c σ) (solve_first c σ)
  solve_first (matches p u ∷ c) σ =
      let g : Solution → Answers Binding = λ x. asking L.budget (have_sorts L.below.sorts (variables p) x.values) λ ok. when ok (shown P L c (extend σ (variables p) x.values)) in
      first_try L.budget (L.below.eval (instance (look_up σ) u)) (λ v. first_of (one c σ p) (keep (λ x. agree P.sign.theory σ (variables p) x.values) (solutions P.sign p v)))
      (λ v. for_each g (answers_of (keep (λ x. agree P.sign.theory σ (variables p) x.values) (solutions P.sign p v)))) (grows.eval_grows (instance (look_up σ) u)) (falls.eval_falls (instance (look_up σ) u))
      λ v. first_first L.budget (one c σ p) g (one_falls c σ p)
      (λ x. first_try L.budget (have_sorts L.below.sorts (variables p) x.values) (λ ok. where_true ok (solve P L.below c (extend σ (variables p) x.values))) (λ ok. when ok (shown P L c (extend σ (variables p) x.values)))
      (have_sorts_grow L.below.sorts L.below.sorts grows.sorts_grow (variables p) x.values) (have_sorts_fall L.below.sorts falls.sorts_fall (variables p) x.values)
      λ ok. first_where L.budget ok (solve P L.below c (extend σ (variables p) x.values)) (shown P L c (extend σ (variables p) x.values)) (solve_first c (extend σ (variables p) x.values)))
      (keep (λ x. agree P.sign.theory σ (variables p) x.values) (solutions P.sign p v))
  solve_first (reaches t u ∷ c) σ = λ b i. refl
