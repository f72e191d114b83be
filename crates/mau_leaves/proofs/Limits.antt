-- What is said of a computation at some limits holds from some limits on; and ends are those of the limits of an item.
use Rattle.std.proofs.Common.{◌≡◌, ◌⊎◌, inl, inr, ◌≤◌, ◌+◌, ◌-◌, ℕ, suc, Bool, List, Option, None, Some, Result, Ok, Err, sym, ap, ◌∙◌, arith}
use Rattle.std.specs.Option.{option_map}
use Rattle.mau_terms.specs.Tree.{Tree}
use Rattle.mau_terms.specs.declared.ids.TermId.{TermId}
use Rattle.mau_terms.specs.declared.ids.VarId.{VarId}
use Rattle.mau_store.specs.Node.{Node}
use Rattle.mau_store.specs.Trees.{tree_at}
use Rattle.mau_program.specs.declared.program.Program as Typed
use Rattle.mau_evaluation.specs.Run.{End, stopped, too_deep, overflowed, Outcome, done, ended, Run}
use Rattle.mau_evaluation.specs.Program.{Fragment, Program}
use Rattle.mau_evaluation.specs.Evaluation.{Binding}
use Rattle.mau_evaluation.specs.Engine.{Engine, engine_of}
use Rattle.mau_evaluation.specs.Higher.{with_more}
use Rattle.mau_evaluation.specs.Questions.{Question, evaluates, EndsBy}
use Rattle.mau_api.specs.Programs.{program_over}
use Rattle.mau_api.specs.Meanings.{Meanings, StaysUnderLimits, AreMeanings, meanings_by}
use Rattle.mau_api.specs.Answers.{levels_of_item, levels_of_condition, HasCause, binding_in, solving_from, MaySolve, IsAllowed, mapped}
use Rattle.mau_api.specs.declared.results.EvalEnd.{EvalEnd}
use Rattle.mau_api.specs.declared.results.EvalEnd.TheVariants.{Stopped, TooDeep, Overflow, NoMemory}
use Rattle.mau_api.specs.declared.results.Reduced.{Reduced}
use Rattle.mau_leaves.specs.Uses.{question_from, condition_from}
use Rattle.mau_leaves.specs.Answers.{ComesTo, QuestionEnds, IsNextShown, GivesValue}

-- ---- any computation that stays

module _ {A : Type 0} (F : ℕ → ℕ → Run A) (law : StaysUnderLimits F) where
  pub later : (k B c : ℕ) (x : A) (r left : ℕ) → F k B c ≡ done x r left → (k' B' b' : ℕ) → k ≤ k' → B ≤ B' → c ≤ b' → F k' B' b' ≡ done x r (left + (b' - c))
  later k B c x r left e k' B' b' h i j = ap (F k' B') (omega arith) ∙ (law.stays k k' B B' c (b' - c) h i).0 x r left e

  pub stopped_higher : (k B b least : ℕ) → F k B b ≡ ended stopped → F (k + least) B b ≡ ended stopped
  stopped_higher k B b least e = by (law.levels k (k + least) B (omega arith) b)
    where
      clash : {X : Type 0} → (let o : Outcome A = ended stopped in o ≡ ended too_deep) → X
      clash q = cc

      by : (F k B b ≡ ended too_deep) ⊎ (F k B b ≡ F (k + least) B b) → F (k + least) B b ≡ ended stopped
      by (inl z) = clash (sym e ∙ z)
      by (inr z) = sym z ∙ e

  pub deep_richer : (k B c b : ℕ) → F k B c ≡ ended too_deep → F k (B + c + b) (B + c + b) ≡ ended too_deep
  deep_richer k B c b e = ap (F k (B + c + b)) (sums B c b) ∙ by (law.budgets k B (B + c + b) (omega arith) c (B + b))
    where
      sums : (B c b : ℕ) → B + c + b ≡ c + (B + b)
      sums B c b = omega arith

      clash : {X : Type 0} → (let o : Outcome A = ended too_deep in o ≡ ended stopped) → X
      clash q = cc

      by : (F k B c ≡ ended stopped) ⊎ (F k (B + c + b) (c + (B + b)) ≡ with_more (B + b) (F k B c)) → F k (B + c + b) (c + (B + b)) ≡ ended too_deep
      by (inl z) = clash (sym e ∙ z)
      by (inr z) = z ∙ ap (with_more (B + b)) e

  pub overflows_later : (k B c : ℕ) → F k B c ≡ ended overflowed → F k (B + c) (B + c) ≡ ended overflowed
  overflows_later k B c e = ap (F k (B + c)) (sums B c) ∙ (law.stays k k B (B + c) c B (omega arith) (omega arith)).1 e
    where
      sums : (B c : ℕ) → B + c ≡ c + B
      sums B c = omega arith

-- ---- questions

module _ (P : Program) {A : Type 0} (F : ℕ → ℕ → Run A) (law : StaysUnderLimits F) where
  -- what is given at some limits comes
  comes_so : (m : Engine → Run A) → ((k B b : ℕ) → m (engine_of P k B b) b ≡ F k B b) → (k B c : ℕ) (x : A) (r left : ℕ) → F k B c ≡ done x r left → ComesTo P m x
  comes_so m is k B c x r left e = record {
    level = k;
    each = B;
    budget = c;
    holds = λ k' B' b' h i j. (r, left + (b' - c), is k' B' b' ∙ later F law k B c x r left e k' B' b' h i j);
  }

  module _ (q : Question) (is : (k b : ℕ) (e : End) → F k b b ≡ ended e → EndsBy (engine_of P k b b) q e) where
    stopped_so : (k b : ℕ) → F k b b ≡ ended stopped → QuestionEnds P b q Stopped
    stopped_so k b e = (k + levels_of_condition, omega arith, is (k + levels_of_condition) b stopped (stopped_higher F law k b b levels_of_condition e))

    deep_so : (b B c : ℕ) → F levels_of_condition B c ≡ ended too_deep → QuestionEnds P b q TooDeep
    deep_so b B c e = (B + c + b, omega arith, is levels_of_condition (B + c + b) too_deep (deep_richer F law levels_of_condition B c b e))

    overflows_so : (b k B c : ℕ) → levels_of_condition ≤ k → b ≤ B → F k B c ≡ ended overflowed → QuestionEnds P b q Overflow
    overflows_so b k B c h i e = (k, B + c, h, le_more b B c i, is k (B + c) overflowed (overflows_later F law k B c e))
      where
        le_more : (b B c : ℕ) → b ≤ B → b ≤ B + c
        le_more b B c h = omega arith

    cause_so : (b : ℕ) (e : EvalEnd) → HasCause F levels_of_condition b b e → QuestionEnds P b q e
    cause_so b Stopped h = stopped_so h.0 b h.1
    cause_so b TooDeep h = deep_so b h.0 h.1 h.2
    cause_so b Overflow h = overflows_so b h.0 h.1 h.2 h.3 h.4 h.6
    cause_so b NoMemory h = tt

-- ---- conditions

module _ (p : Typed.Program) (m : Meanings) (program : m.program ≡ p) (defined : m ≡ meanings_by p m.hooks m.limit m.remembers) (laws : AreMeanings m) where
  abbrev P : Program
  P = program_over p m.hooks

  module _ (c : List Fragment) (σ : Binding) where
    asked_law : (o : Option Binding) → StaysUnderLimits (solving_from m o c σ)
    asked_law None = laws.solving c σ
    asked_law (Some last) = laws.solving_after last c σ

    asked_is : (o : Option Binding) (k B b : ℕ) → condition_from P (engine_of P k B b) o c σ b ≡ solving_from m o c σ k B b
    asked_is None k B b = sym (ap (λ (n : Meanings). n.solving k B c σ b) defined)
    asked_is (Some last) k B b = sym (ap (λ (n : Meanings). n.solving_after k B last c σ b) defined)

    asked_ends : (o : Option Binding) (k b : ℕ) (e : End) → solving_from m o c σ k b b ≡ ended e → EndsBy (engine_of P k b b) (question_from o c σ) e
    asked_ends None k b e h = asked_is None k b b ∙ h
    asked_ends (Some last) k b e h = asked_is (Some last) k b b ∙ h

    pub next_shown : (o : Option Binding) (nodes : List Node) (r : Result (Option (List (VarId × TermId) × ℕ)) EvalEnd) → MaySolve m (solving_from m o c σ) m.limit nodes r →
        IsNextShown P m.limit o c σ nodes (mapped (option_map (λ x. x.0)) r)
    next_shown o nodes (Ok (Some x)) h = let w = h.1 in comes_so P (solving_from m o c σ) (asked_law o) (λ L. condition_from P L o c σ) (asked_is o) w.0 w.1 w.2 (Some (binding_in nodes x.0)) h.0 w.3 w.7
    next_shown o nodes (Ok None) h = let w = h.1 in comes_so P (solving_from m o c σ) (asked_law o) (λ L. condition_from P L o c σ) (asked_is o) w.0 w.1 w.2 None h.0 w.3 w.7
    next_shown o nodes (Err e) h = cause_so P (solving_from m o c σ) (asked_law o) (question_from o c σ) (asked_ends o) m.limit e h

  -- ---- evaluations

  module _ (t : Tree) where
    abbrev G : ℕ → ℕ → Run Tree
    G k B = m.evaluation (suc k) B t

    own : StaysUnderLimits (λ k B. m.evaluation (suc k) B t)
    own = let law = laws.evaluation t in record {
      stays = λ k k' B B' b c h i. law.stays (suc k) (suc k') B B' b c (omega arith) i;
      levels = λ k k' B h. law.levels (suc k) (suc k') B (omega arith);
      budgets = λ k B B' h. law.budgets (suc k) B B' h;
    }

    value_is : (k B b : ℕ) → (engine_of P k B b).level.eval t b ≡ m.evaluation (suc k) B t b
    value_is k B b = sym (ap (λ (n : Meanings). n.evaluation (suc k) B t b) defined)

    level_below : (n : ℕ) → levels_of_item ≤ n → suc (n - 1) ≡ n
    level_below n h = omega arith

    enough_below : (n : ℕ) → levels_of_item ≤ n → levels_of_condition ≤ n - 1
    enough_below n h = omega arith

    -- the cause of an end, one level less
    cause_below : (b : ℕ) (e : EvalEnd) → HasCause (λ k B. m.evaluation k B t) levels_of_item b b e → HasCause (λ k B. m.evaluation (suc k) B t) levels_of_condition b b e
    cause_below b Stopped h = (h.0, more h.0 h.1)
      where
        clash : {X : Type 0} → (let o : Outcome Tree = ended stopped in o ≡ ended too_deep) → X
        clash q = cc

        more : (k : ℕ) → m.evaluation k b t b ≡ ended stopped → m.evaluation (suc k) b t b ≡ ended stopped
        more k e = at ((laws.evaluation t).levels k (suc k) b (omega arith) b)
          where
            at : (m.evaluation k b t b ≡ ended too_deep) ⊎ (m.evaluation k b t b ≡ m.evaluation (suc k) b t b) → m.evaluation (suc k) b t b ≡ ended stopped
            at (inl z) = clash (sym e ∙ z)
            at (inr z) = sym z ∙ e
    cause_below b TooDeep h = h
    cause_below b Overflow h = (h.0 - 1, h.1, h.2, enough_below h.0 h.3, h.4, h.5, ap (λ j. m.evaluation j h.1 t h.2) (level_below h.0 h.3) ∙ h.6)
    cause_below b NoMemory h = tt

    pub value_known : (nodes : List Node) (r : Result Reduced EvalEnd) (remembered : Bool) → IsAllowed m remembered t m.limit nodes r → GivesValue P m.limit t nodes (mapped (λ x. x.term) r)
    value_known nodes (Ok x) remembered h =
        let w = h.1 in
        comes_so P G own (λ L. L.level.eval t) value_is (w.0 - 1) w.1 w.2 (tree_at nodes x.term.0) h.0 w.3 (ap (λ j. m.evaluation j w.1 t w.2) (level_below w.0 w.4) ∙ w.7)
    value_known nodes (Err Stopped) remembered h = cause_so P G own (evaluates t) (λ k b e i. value_is k b b ∙ i) m.limit Stopped (cause_below m.limit Stopped h.0)
    value_known nodes (Err TooDeep) remembered h = cause_so P G own (evaluates t) (λ k b e i. value_is k b b ∙ i) m.limit TooDeep (cause_below m.limit TooDeep h)
    value_known nodes (Err Overflow) remembered h = cause_so P G own (evaluates t) (λ k b e i. value_is k b b ∙ i) m.limit Overflow (cause_below m.limit Overflow h)
    value_known nodes (Err NoMemory) remembered h = tt
