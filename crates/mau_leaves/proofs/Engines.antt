-- Engines that have no answer to some question: what else they answer as before.
use Rattle.std.proofs.Common.{◌≡◌, ◌⊎◌, inl, inr, ℕ, List, [], ◌∷◌, Bool, true, false, ◌==◌, ◌&&◌, if◌then◌else◌, Option, Some, None, refl, sym, ap, ◌∙◌, subst, eq-eqb}
use Rattle.mau_terms.specs.Tree.{Tree}
use Rattle.mau_terms.specs.Subst.{Variable, same_variable, variables, instance}
use Rattle.mau_terms.proofs.Variables.{same_itself}
use Rattle.mau_evaluation.specs.Run.{End, Outcome, done, ended, Run, gives, counted, go_on, choose}
use Rattle.mau_evaluation.specs.Program.{Fragment, equals, matches, has_sort, reaches, Program}
use Rattle.mau_evaluation.specs.Listing.{same_tree, keep, solutions}
use Rattle.mau_evaluation.specs.Evaluation.{Binding, Level, look_up, extend, agree, has_number, have_sorts}
use Rattle.mau_evaluation.specs.Engine.{Engine}
use Rattle.mau_evaluation.specs.Answers.{Answers, answers_of, for_each, asking, when, FirstBy, answer, before}
use Rattle.mau_evaluation.specs.OrderedLists.{shown, AsksFirst, AsksNext}
use Rattle.mau_evaluation.specs.Questions.{Question, evaluates, takes_sorts, asks, asks_after, same_list, same_fragment, same_binding, same_condition, but_ends, without}
use Rattle.mau_evaluation.proofs.Still.{same_tree_itself}
use Rattle.mau_evaluation.proofs.BareTerms.{and_so}
use Rattle.mau_leaves.specs.Uses.{condition_from, question_from}

-- ---- a computation that has no answer from one budget

but_by : {A : Type 0} (t : Bool) (n : ℕ) (e : End) (m : Run A) (b : ℕ) → (but_ends t n e m b ≡ m b) ⊎ (but_ends t n e m b ≡ ended e)
but_by {A = A} t n e m b = by (t && (b == n))
  where
    by : (c : Bool) → ((if c then ended e else m b) ≡ m b) ⊎ ((if c then ended e else m b) ≡ ended e)
    by true = inr refl
    by false = inl refl

but_there : {A : Type 0} (t : Bool) (n : ℕ) (e : End) (m : Run A) → t ≡ true → but_ends t n e m n ≡ ended e
but_there t n e m h = ap (λ c. if c then ended e else m n) (and_so t (n == n) h (eq-eqb n n refl))

-- ---- computations that may end instead, in a row

counted_or : {B : Type 0} (r : ℕ) (e : End) (m n : Outcome B) → (m ≡ n) ⊎ (m ≡ ended e) → (counted r m ≡ counted r n) ⊎ (counted r m ≡ ended e)
counted_or r e m n (inl h) = inl (ap (counted r) h)
counted_or r e m n (inr h) = inr (ap (counted r) h)

module _ {A B : Type 0} (k m : A → Run B) (e : End) (h : (x : A) (c : ℕ) → (k x c ≡ m x c) ⊎ (k x c ≡ ended e)) where
  same_or : (o : Outcome A) → (go_on k o ≡ go_on m o) ⊎ (go_on k o ≡ ended e)
  same_or (done x r c) = counted_or r e (k x c) (m x c) (h x c)
  same_or (ended f) = inl refl

  step_or : (o p : Outcome A) → (o ≡ p) ⊎ (o ≡ ended e) → (go_on k o ≡ go_on m p) ⊎ (go_on k o ≡ ended e)
  step_or o p (inl z) = by (same_or p)
    where
      by : (go_on k p ≡ go_on m p) ⊎ (go_on k p ≡ ended e) → (go_on k o ≡ go_on m p) ⊎ (go_on k o ≡ ended e)
      by (inl w) = inl (ap (go_on k) z ∙ w)
      by (inr w) = inr (ap (go_on k) z ∙ w)
  step_or o p (inr z) = inr (ap (go_on k) z)

module _ (f g : Tree → Run (List ℕ)) (e : End) (h : (v : Tree) (b : ℕ) → (f v b ≡ g v b) ⊎ (f v b ≡ ended e)) where
  chosen_or : (xs : List Variable) (vs : List Tree) → ((c : ℕ) → (have_sorts f xs vs c ≡ have_sorts g xs vs c) ⊎ (have_sorts f xs vs c ≡ ended e)) → (t : Bool) (c : ℕ) →
      (choose t (have_sorts f xs vs) (gives false) c ≡ choose t (have_sorts g xs vs) (gives false) c) ⊎ (choose t (have_sorts f xs vs) (gives false) c ≡ ended e)
  chosen_or xs vs rest true c = rest c
  chosen_or xs vs rest false c = inl refl

  have_or : (xs : List Variable) (vs : List Tree) (b : ℕ) → (have_sorts f xs vs b ≡ have_sorts g xs vs b) ⊎ (have_sorts f xs vs b ≡ ended e)
  have_or [] vs b = inl refl
  have_or (x ∷ xs) [] b = inl refl
  have_or (x ∷ xs) (v ∷ vs) b =
      step_or (λ ss. choose (has_number ss x.1) (have_sorts f xs vs) (gives false)) (λ ss. choose (has_number ss x.1) (have_sorts g xs vs) (gives false)) e
      (λ ss c. chosen_or xs vs (have_or xs vs) (has_number ss x.1) c) (f v b) (g v b) (h v b)

module _ (L : Engine) (q : Question) (e : End) where
  pub eval_or : (t : Tree) → ((without L q e).level.eval t (without L q e).budget ≡ L.level.eval t L.budget) ⊎ ((without L q e).level.eval t (without L q e).budget ≡ ended e)
  eval_or t = elim q as (λ q. ((without L q e).level.eval t (without L q e).budget ≡ L.level.eval t L.budget) ⊎ ((without L q e).level.eval t (without L q e).budget ≡ ended e)) [
    | evaluates u ↦ but_by (same_tree t u) L.budget e (L.level.eval t) L.budget
    | takes_sorts u ↦ inl refl
    | asks c σ ↦ inl refl
    | asks_after last c σ ↦ inl refl
  ]

  sorts_or : (v : Tree) (b : ℕ) → ((without L q e).level.sorts v b ≡ L.level.sorts v b) ⊎ ((without L q e).level.sorts v b ≡ ended e)
  sorts_or v b = elim q as (λ q. ((without L q e).level.sorts v b ≡ L.level.sorts v b) ⊎ ((without L q e).level.sorts v b ≡ ended e)) [
    | evaluates u ↦ inl refl
    | takes_sorts u ↦ but_by (same_tree v u) L.budget e (L.level.sorts v) b
    | asks c σ ↦ inl refl
    | asks_after last c σ ↦ inl refl
  ]

  -- whether values have the sorts of variables
  pub having_or : (xs : List Variable) (vs : List Tree) (b : ℕ) →
      (have_sorts (without L q e).level.sorts xs vs b ≡ have_sorts L.level.sorts xs vs b) ⊎ (have_sorts (without L q e).level.sorts xs vs b ≡ ended e)
  having_or = have_or (without L q e).level.sorts L.level.sorts e sorts_or

  ask_or : (c : List Fragment) (σ : Binding) → ((without L q e).ask c σ (without L q e).budget ≡ L.ask c σ L.budget) ⊎ ((without L q e).ask c σ (without L q e).budget ≡ ended e)
  ask_or c σ = elim q as (λ q. ((without L q e).ask c σ (without L q e).budget ≡ L.ask c σ L.budget) ⊎ ((without L q e).ask c σ (without L q e).budget ≡ ended e)) [
    | evaluates u ↦ inl refl
    | takes_sorts u ↦ inl refl
    | asks d τ ↦ but_by (same_condition c σ d τ) L.budget e (L.ask c σ) L.budget
    | asks_after last d τ ↦ inl refl
  ]

  ask_after_or : (m : Binding) (c : List Fragment) (σ : Binding) → ((without L q e).ask_after m c σ (without L q e).budget ≡ L.ask_after m c σ L.budget) ⊎ ((without L q e).ask_after m c σ (without L q e).budget ≡ ended e)
  ask_after_or m c σ = elim q as (λ q. ((without L q e).ask_after m c σ (without L q e).budget ≡ L.ask_after m c σ L.budget) ⊎ ((without L q e).ask_after m c σ (without L q e).budget ≡ ended e)) [
    | evaluates u ↦ inl refl
    | takes_sorts u ↦ inl refl
    | asks d τ ↦ inl refl
    | asks_after last d τ ↦ but_by (same_binding m last && same_condition c σ d τ) L.budget e (L.ask_after m c σ) L.budget
  ]

  pub budget_same : (without L q e).budget ≡ L.budget
  budget_same = elim q as (λ q. (without L q e).budget ≡ L.budget) [
    | evaluates u ↦ refl
    | takes_sorts u ↦ refl
    | asks d τ ↦ refl
    | asks_after last d τ ↦ refl
  ]

pub condition_or : (P : Program) (L : Engine) (q : Question) (e : End) (o : Option Binding) (c : List Fragment) (σ : Binding) →
    (condition_from P (without L q e) o c σ (without L q e).budget ≡ condition_from P L o c σ L.budget) ⊎ (condition_from P (without L q e) o c σ (without L q e).budget ≡ ended e)
condition_or P L q e None c σ = ask_or L q e c σ
condition_or P L q e (Some last) c σ = ask_after_or L q e last c σ

-- ---- the question itself

list_knows : {A : Type 0} (same : A → A → Bool) → ((x : A) → same x x ≡ true) → (xs : List A) → same_list same xs xs ≡ true
list_knows same h [] = refl
list_knows same h (x ∷ xs) = and_so (same x x) (same_list same xs xs) (h x) (list_knows same h xs)

fragment_knows : (x : Fragment) → same_fragment x x ≡ true
fragment_knows (equals t u) = and_so (same_tree t t) (same_tree u u) (same_tree_itself t) (same_tree_itself u)
fragment_knows (matches t u) = and_so (same_tree t t) (same_tree u u) (same_tree_itself t) (same_tree_itself u)
fragment_knows (has_sort t s) = and_so (same_tree t t) (s == s) (same_tree_itself t) (eq-eqb s s refl)
fragment_knows (reaches t u) = and_so (same_tree t t) (same_tree u u) (same_tree_itself t) (same_tree_itself u)

bound_knows : (x : Variable × Tree) → (same_variable x.0 x.0 && same_tree x.1 x.1) ≡ true
bound_knows x = and_so (same_variable x.0 x.0) (same_tree x.1 x.1) (same_itself x.0) (same_tree_itself x.1)

condition_knows : (c : List Fragment) (σ : Binding) → same_condition c σ c σ ≡ true
condition_knows c σ = and_so (same_list same_fragment c c) (same_binding σ σ) (list_knows same_fragment fragment_knows c) (list_knows (λ x y. same_variable x.0 y.0 && same_tree x.1 y.1) bound_knows σ)

pub condition_there : (P : Program) (L : Engine) (f : End) (o : Option Binding) (c : List Fragment) (σ : Binding) →
    condition_from P (without L (question_from o c σ) f) o c σ (without L (question_from o c σ) f).budget ≡ ended f
condition_there P L f None c σ = but_there (same_condition c σ c σ) L.budget f (L.ask c σ) (condition_knows c σ)
condition_there P L f (Some last) c σ =
    but_there (same_binding last last && same_condition c σ c σ) L.budget f (L.ask_after last c σ)
    (and_so (same_binding last last) (same_condition c σ c σ) (list_knows (λ x y. same_variable x.0 y.0 && same_tree x.1 y.1) bound_knows last) (condition_knows c σ))

pub eval_there : (L : Engine) (f : End) (t : Tree) → (without L (evaluates t) f).level.eval t (without L (evaluates t) f).budget ≡ ended f
eval_there L f t = but_there (same_tree t t) L.budget f (L.level.eval t) (same_tree_itself t)

-- ---- conditions are shown as before

module _ (P : Program) (L : Engine) (l : Level) (a : List Fragment → Binding → Run (Option Binding)) (b : Binding → List Fragment → Binding → Run (Option Binding)) where
  abbrev other : Engine
  other = record L { level = l; ask = a; ask_after = b }

  shown_same : (c : List Fragment) (σ : Binding) → shown P other c σ ≡ shown P L c σ
  shown_same [] σ = refl
  shown_same (equals t u ∷ c) σ = λ i.
      asking L.budget (L.below.eval (instance (look_up σ) t)) λ v. asking L.budget (L.below.eval (instance (look_up σ) u)) λ w. when (same_tree v w) (shown_same c σ i)
  shown_same (has_sort t s ∷ c) σ = λ i.
      asking L.budget (L.below.eval (instance (look_up σ) t)) λ v. asking L.budget (L.below.sorts v) λ ss. when (has_number ss s) (shown_same c σ i)
  shown_same (matches p u ∷ c) σ = λ i.
      asking L.budget (L.below.eval (instance (look_up σ) u)) λ v.
      for_each (λ x. asking L.budget (have_sorts L.below.sorts (variables p) x.values) λ ok. when ok (shown_same c (extend σ (variables p) x.values) i))
      (answers_of (keep (λ x. agree P.sign.theory σ (variables p) x.values) (solutions P.sign p v)))
  shown_same (reaches t u ∷ c) σ = refl

pub shown_without : (P : Program) (L : Engine) (q : Question) (e : End) (c : List Fragment) (σ : Binding) → shown P (without L q e) c σ ≡ shown P L c σ
shown_without P L q e c σ = elim q as (λ q. shown P (without L q e) c σ ≡ shown P L c σ) [
  | evaluates u ↦ shown_same P L (without L (evaluates u) e).level L.ask L.ask_after c σ
  | takes_sorts u ↦ shown_same P L (without L (takes_sorts u) e).level L.ask L.ask_after c σ
  | asks d τ ↦ shown_same P L L.level (without L (asks d τ) e).ask L.ask_after c σ
  | asks_after last d τ ↦ shown_same P L L.level L.ask (without L (asks_after last d τ) e).ask_after c σ
]

-- ---- so askings are right

pub record AsksRightly (P : Program) (L : Engine) : Type 0 where
  pub first : AsksFirst P L
  pub next : AsksNext P L

module _ (P : Program) (L : Engine) (right : AsksRightly P L) (q : Question) (e : End) where
  pub without_right : AsksRightly P (without L q e)
  without_right = record { first = λ c σ. first c σ (ask_or L q e c σ); next = λ c σ last given rest h. next c σ last given rest h (ask_after_or L q e last c σ) }
    where
      first : (c : List Fragment) (σ : Binding) → ((without L q e).ask c σ (without L q e).budget ≡ L.ask c σ L.budget) ⊎ ((without L q e).ask c σ (without L q e).budget ≡ ended e) →
          FirstBy ((without L q e).ask c σ (without L q e).budget) (shown P (without L q e) c σ)
      first c σ (inl h) = subst (λ o. FirstBy o (shown P (without L q e) c σ)) (sym h) (subst (FirstBy (L.ask c σ L.budget)) (sym (shown_without P L q e c σ)) (right.first c σ))
      first c σ (inr h) = subst (λ o. FirstBy o (shown P (without L q e) c σ)) (sym h) tt

      next : (c : List Fragment) (σ last : Binding) (given : List Binding) (rest : Answers Binding) → shown P (without L q e) c σ ≡ before given (answer last rest) →
          ((without L q e).ask_after last c σ (without L q e).budget ≡ L.ask_after last c σ L.budget) ⊎ ((without L q e).ask_after last c σ (without L q e).budget ≡ ended e) →
          FirstBy ((without L q e).ask_after last c σ (without L q e).budget) rest
      next c σ last given rest h (inl k) = subst (λ o. FirstBy o rest) (sym k) (right.next c σ last given rest (sym (shown_without P L q e c σ) ∙ h))
      next c σ last given rest h (inr k) = subst (λ o. FirstBy o rest) (sym k) tt
