-- Steps throughout, by what an evaluator answered.
use Rattle.std.proofs.Common.{◌≡◌, ◌⊎◌, inl, inr, ℕ, List, [], ◌∷◌, ◌++◌, Bool, true, ◌&&◌, Option, Some, None, sym, ap, ◌∙◌}
use Rattle.mau_terms.specs.Tree.{Tree}
use Rattle.mau_terms.specs.Bare.{IsLawful}
use Rattle.mau_terms.specs.Finite.{IsIn}
use Rattle.mau_terms.specs.Subst.{variables}
use Rattle.mau_evaluation.specs.Run.{End, stopped, done, ended}
use Rattle.mau_evaluation.specs.Program.{Fragment, Rule, Program}
use Rattle.mau_evaluation.specs.Listing.{Solution}
use Rattle.mau_evaluation.specs.Evaluation.{Binding, extend, agree, have_sorts}
use Rattle.mau_evaluation.specs.Engine.{Engine, engine_of}
use Rattle.mau_evaluation.specs.Answers.{Answers}
use Rattle.mau_evaluation.specs.Eventually.{Eventually}
use Rattle.mau_evaluation.specs.Questions.{Question, evaluates, without}
use Rattle.mau_evaluation.proofs.After.{askings_are_right}
use Rattle.mau_api.specs.declared.results.EvalEnd.{EvalEnd}
use Rattle.mau_api.specs.declared.results.EvalEnd.TheVariants.{Stopped, TooDeep, Overflow, NoMemory}
use Rattle.mau_leaves.specs.Steps.{Gives, IsOver, Passes, EndsNow, Throughout}
use Rattle.mau_leaves.specs.Uses.{Use, behind, at_one, solutions_as, solutions_behind, question_from, condition_from, IsLeft}
use Rattle.mau_leaves.specs.Answers.{ComesTo, QuestionEnds, IsDueBy}
use Rattle.mau_rules.proofs.Passing.{AllFail}
use Rattle.mau_leaves.proofs.Engines.{AsksRightly, without_right, budget_same, having_or, eval_or, condition_or, condition_there, eval_there}
use Rattle.mau_leaves.proofs.Steps.{both_so, so, always_so}
use Rattle.mau_leaves.proofs.Moves.{use_given, use_passed, use_ends, next_one, no_other, skip_one}

-- an end of a question without which an end is left
pub due_by : {A : Type 0} (P : Program) (b : ℕ) (now : Engine → Answers A → Type 0) (q : Question) (e : EvalEnd) → QuestionEnds P b q e → ((f : End) → Eventually (engine_of P) (λ L. EndsNow (now (without L q f)) f)) → IsDueBy P b now e
due_by P b now q Stopped h n = record { question = q; ends = h; needs = n }
due_by P b now q TooDeep h n = record { question = q; ends = h; needs = n }
due_by P b now q Overflow h n = record { question = q; ends = h; needs = n }
due_by P b now q NoMemory h n = tt

module _ (P : Program) (lawful : IsLawful P.sign) where
  pub rightly : (k B b : ℕ) → AsksRightly P (engine_of P k B b)
  rightly k B b = let h = askings_are_right P lawful k B b in record { first = h.0; next = h.1 }

  -- ---- the next solution of a condition

  module _ {A : Type 0} (now : Engine → Answers A → Type 0) (o : Option Binding) (c : List Fragment) (σ : Binding)
      (end : (L : Engine) → AsksRightly P L → (f : End) → condition_from P L o c σ L.budget ≡ ended f → EndsNow (now L) f) where
    pub asked_through : (y : Option Binding) (H : Engine → Type 0) → ((L : Engine) → AsksRightly P L → (r l : ℕ) → condition_from P L o c σ L.budget ≡ done y r l → H L) →
        ComesTo P (λ L. condition_from P L o c σ) y → Throughout (engine_of P) now H
    asked_through y H step comes = record {
      always = both_so (engine_of P) {A = AsksRightly P} {B = λ L. (r : ℕ) × (l : ℕ) × (condition_from P L o c σ L.budget ≡ done y r l)} {C = H} (λ L right h. step L right h.0 h.1 h.2)
          (always_so (engine_of P) {A = AsksRightly P} rightly) comes;
      without_one = λ q e.
          both_so (engine_of P) {A = AsksRightly P} {B = λ L. (r : ℕ) × (l : ℕ) × (condition_from P L o c σ L.budget ≡ done y r l)} {C = λ L. H (without L q e) ⊎ EndsNow (now (without L q e)) e}
          (λ L right h. by L q e right h.0 h.1 h.2 (condition_or P L q e o c σ)) (always_so (engine_of P) {A = AsksRightly P} rightly) comes;
    }
      where
        by : (L : Engine) (q : Question) (e : End) → AsksRightly P L → (r l : ℕ) → condition_from P L o c σ L.budget ≡ done y r l →
            (condition_from P (without L q e) o c σ (without L q e).budget ≡ condition_from P L o c σ L.budget) ⊎ (condition_from P (without L q e) o c σ (without L q e).budget ≡ ended e) →
            H (without L q e) ⊎ EndsNow (now (without L q e)) e
        by L q e right r l h (inl k) = inl (step (without L q e) (without_right P L right q e) r l (k ∙ h))
        by L q e right r l h (inr k) = inr (end (without L q e) (without_right P L right q e) e k)

    pub asked_due : (b : ℕ) (e : EvalEnd) → QuestionEnds P b (question_from o c σ) e → IsDueBy P b now e
    asked_due b e h =
        due_by P b now (question_from o c σ) e h (λ f. so (engine_of P) {A = AsksRightly P} {B = λ L. EndsNow (now (without L (question_from o c σ) f)) f}
        (λ L right. end (without L (question_from o c σ) f) (without_right P L right (question_from o c σ) f) f (condition_there P L f o c σ)) (always_so (engine_of P) {A = AsksRightly P} rightly))

  -- ---- the value of a term

  module _ {A : Type 0} (now : Engine → Answers A → Type 0) (t : Tree) (end : (L : Engine) (f : End) → L.level.eval t L.budget ≡ ended f → EndsNow (now L) f) where
    pub valued_through : (v : Tree) (H : Engine → Type 0) → ((L : Engine) (r l : ℕ) → L.level.eval t L.budget ≡ done v r l → H L) → ComesTo P (λ L. L.level.eval t) v → Throughout (engine_of P) now H
    valued_through v H step comes = record {
      always = so (engine_of P) {A = λ L. (r : ℕ) × (l : ℕ) × (L.level.eval t L.budget ≡ done v r l)} {B = H} (λ L h. step L h.0 h.1 h.2) comes;
      without_one = λ q e.
          so (engine_of P) {A = λ L. (r : ℕ) × (l : ℕ) × (L.level.eval t L.budget ≡ done v r l)} {B = λ L. H (without L q e) ⊎ EndsNow (now (without L q e)) e}
          (λ L h. by L q e h.0 h.1 h.2 (eval_or L q e t)) comes;
    }
      where
        by : (L : Engine) (q : Question) (e : End) (r l : ℕ) → L.level.eval t L.budget ≡ done v r l →
            ((without L q e).level.eval t (without L q e).budget ≡ L.level.eval t L.budget) ⊎ ((without L q e).level.eval t (without L q e).budget ≡ ended e) →
            H (without L q e) ⊎ EndsNow (now (without L q e)) e
        by L q e r l h (inl k) = inl (step (without L q e) r l (k ∙ h))
        by L q e r l h (inr k) = inr (end (without L q e) e k)

    pub valued_due : (b : ℕ) (e : EvalEnd) → QuestionEnds P b (evaluates t) e → IsDueBy P b now e
    valued_due b e h =
        due_by P b now (evaluates t) e h (λ f. always_so (engine_of P) {A = λ L. EndsNow (now (without L (evaluates t) f)) f}
        (λ k B c. end (without (engine_of P k B c) (evaluates t) f) f (eval_there (engine_of P k B c) f t)))

  -- ---- the uses of a rule, as its condition is asked on

  module _ (w : Bool) (q : Rule) (σ : Binding) (t : Tree) (x : Solution) (o : Option Binding) where
    abbrev now_at : Option Binding → Engine → Answers Use → Type 0
    now_at last L = IsLeft P L w q σ t (at_one x last)

    abbrev own : Binding
    own = extend σ (variables q.left) x.values

    pub given_through : (s : Binding) → ComesTo P (λ L. condition_from P L o q.cond own) (Some s) →
        Throughout (engine_of P) (now_at o) (λ L. Gives (now_at o L) (record { rule = q; solution = x; values = s }) (now_at (Some s) L))
    given_through s comes =
        asked_through (now_at o) o q.cond own (λ L right f h. use_ends P L right w q σ t x o f h) (Some s) (λ L. Gives (now_at o L) (record { rule = q; solution = x; values = s }) (now_at (Some s) L))
        (λ L right r l h. use_given P L right w q σ t x o s r l h) comes

    pub passed_through : ComesTo P (λ L. condition_from P L o q.cond own) None → Throughout (engine_of P) (now_at o) (λ L. Passes (now_at o L) (IsLeft P L w q σ t (behind (Some x))))
    passed_through comes =
        asked_through (now_at o) o q.cond own (λ L right f h. use_ends P L right w q σ t x o f h) None (λ L. Passes (now_at o L) (IsLeft P L w q σ t (behind (Some x))))
        (λ L right r l h. use_passed P L right w q σ t x o r l h) comes

    pub due_through : (b : ℕ) (e : EvalEnd) → QuestionEnds P b (question_from o q.cond own) e → IsDueBy P b (now_at o) e
    due_through b e h = asked_due (now_at o) o q.cond own (λ L right f h. use_ends P L right w q σ t x o f h) b e h

-- ---- the uses of a rule, as its solutions are gone through

module _ (P : Program) (w : Bool) (q : Rule) (σ : Binding) (t : Tree) (test : Solution → Bool)
    (sorted : Eventually (engine_of P) (λ L. (y : Solution) → IsIn y (solutions_as P w q t) → have_sorts L.level.sorts (variables q.left) y.values L.budget ≡ done (test y) 0 L.budget)) where
  abbrev Sorted : Engine → Type 0 → End → Type 0
  Sorted L X e = (y : Solution) → IsIn y (solutions_as P w q t) →
      (have_sorts L.level.sorts (variables q.left) y.values L.budget ≡ done (test y) 0 L.budget) ⊎ (X × (have_sorts L.level.sorts (variables q.left) y.values L.budget ≡ ended e))

  abbrev Told : Engine → Type 0
  Told L = (y : Solution) → IsIn y (solutions_as P w q t) → have_sorts L.level.sorts (variables q.left) y.values L.budget ≡ done (test y) 0 L.budget

  sorted_without : (L : Engine) (u : Question) (e : End) → Told L → Sorted (without L u e) (Unit {0}) e
  sorted_without L u e told y listed = by (having_or L u e (variables q.left) y.values (without L u e).budget)
    where
      by : (have_sorts (without L u e).level.sorts (variables q.left) y.values (without L u e).budget ≡ have_sorts L.level.sorts (variables q.left) y.values (without L u e).budget)
          ⊎ (have_sorts (without L u e).level.sorts (variables q.left) y.values (without L u e).budget ≡ ended e) →
          (have_sorts (without L u e).level.sorts (variables q.left) y.values (without L u e).budget ≡ done (test y) 0 (without L u e).budget)
          ⊎ (Unit {0} × (have_sorts (without L u e).level.sorts (variables q.left) y.values (without L u e).budget ≡ ended e))
      by (inl h) = inl (h ∙ (ap (have_sorts L.level.sorts (variables q.left) y.values) (budget_same L u e) ∙ (told y listed ∙ ap (done (test y) 0) (sym (budget_same L u e)))))
      by (inr h) = inr (tt, h)

  -- what holds of each engine, where sorts are given or end
  through : (now : Engine → Answers Use → Type 0) (H : Engine → Type 0) → ((L : Engine) (X : Type 0) (e : End) → Sorted L X e → H L ⊎ (X × EndsNow (now L) e)) → Throughout (engine_of P) now H
  through now H f = record {
    always = so (engine_of P) {A = Told} {B = H} (λ L told. here L (f L ⊥ stopped (λ y listed. inl (told y listed)))) sorted;
    without_one = λ u e. so (engine_of P) {A = Told} {B = λ L. H (without L u e) ⊎ EndsNow (now (without L u e)) e} (λ L told. there (without L u e) e (f (without L u e) (Unit {0}) e (sorted_without L u e told))) sorted;
  }
    where
      here : (L : Engine) → H L ⊎ (⊥ × EndsNow (now L) stopped) → H L
      here L (inl h) = h
      here L (inr h) = absurd h.0

      there : (L : Engine) (e : End) → H L ⊎ (Unit {0} × EndsNow (now L) e) → H L ⊎ EndsNow (now L) e
      there L e (inl h) = inl h
      there L e (inr h) = inr h.1

  module _ (last : Option Solution) where
    pub next_through : (failed ys : List Solution) (x : Solution) → solutions_behind P w q t last ≡ failed ++ (x ∷ ys) → AllFail (λ y. agree P.sign.theory σ (variables q.left) y.values && test y) failed →
        (agree P.sign.theory σ (variables q.left) x.values && test x) ≡ true → solutions_behind P w q t (Some x) ≡ ys →
        Throughout (engine_of P) (λ L. IsLeft P L w q σ t (behind last)) (λ L. Passes (IsLeft P L w q σ t (behind last)) (IsLeft P L w q σ t (at_one x None)))
    next_through failed ys x parts fails passes rest =
        through (λ L. IsLeft P L w q σ t (behind last)) (λ L. Passes (IsLeft P L w q σ t (behind last)) (IsLeft P L w q σ t (at_one x None)))
        (λ L X e sorted. next_one P L w q σ t X e test sorted last failed ys x parts fails passes rest)

    pub none_through : (failed : List Solution) → solutions_behind P w q t last ≡ failed ++ [] → AllFail (λ y. agree P.sign.theory σ (variables q.left) y.values && test y) failed →
        Throughout (engine_of P) (λ L. IsLeft P L w q σ t (behind last)) (λ L. IsOver (IsLeft P L w q σ t (behind last)))
    none_through failed parts fails =
        through (λ L. IsLeft P L w q σ t (behind last)) (λ L. IsOver (IsLeft P L w q σ t (behind last))) (λ L X e sorted. no_other P L w q σ t X e test sorted last failed parts fails)

    pub skip_through : (failed ys : List Solution) (x : Solution) → solutions_behind P w q t last ≡ failed ++ ys → AllFail (λ y. agree P.sign.theory σ (variables q.left) y.values && test y) failed →
        solutions_behind P w q t (Some x) ≡ ys → Throughout (engine_of P) (λ L. IsLeft P L w q σ t (behind last)) (λ L. Passes (IsLeft P L w q σ t (behind last)) (IsLeft P L w q σ t (behind (Some x))))
    skip_through failed ys x parts fails rest =
        through (λ L. IsLeft P L w q σ t (behind last)) (λ L. Passes (IsLeft P L w q σ t (behind last)) (IsLeft P L w q σ t (behind (Some x))))
        (λ L X e sorted. skip_one P L w q σ t X e test sorted last failed ys x parts fails rest)
