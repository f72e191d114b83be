-- What the answers of an evaluator say of evaluations and conditions.
use Rattle.std.proofs.Common.{◌≡◌, ◌⊎◌, inl, inr, ◌≤◌, ◌-◌, ℕ, suc, Bool, false, List, Option, Some, None, Result, Ok, Err, OnOk, sym, ap, ◌∙◌, arith}
use Rattle.mau_terms.specs.Tree.{Tree}
use Rattle.mau_terms.specs.declared.ids.VarId.{VarId}
use Rattle.mau_terms.specs.declared.ids.TermId.{TermId}
use Rattle.mau_store.specs.Node.{Node}
use Rattle.mau_store.specs.Trees.{tree_at}
use Rattle.mau_program.specs.declared.program.Program as Typed
use Rattle.mau_evaluation.specs.Run.{stopped, too_deep, overflowed, Outcome, done, ended, Run}
use Rattle.mau_evaluation.specs.Program.{Fragment}
use Rattle.mau_evaluation.specs.Evaluation.{Binding, eval}
use Rattle.mau_evaluation.specs.Laws.{StaysTheSame}
use Rattle.mau_api.specs.Programs.{program_over}
use Rattle.mau_api.specs.Meanings.{Meanings, StaysUnderLimits, AreMeanings}
use Rattle.mau_api.specs.Answers.{uses_results, levels_of_item, levels_of_condition, HasCause, LeavesEnough, binding_in, solving_from, IsSolvedExactly, MaySolve, IsExact, IsAllowed}
use Rattle.mau_api.specs.declared.results.EvalEnd.{EvalEnd}
use Rattle.mau_api.specs.declared.results.EvalEnd.TheVariants.{Stopped, TooDeep, Overflow, NoMemory}
use Rattle.mau_api.specs.declared.results.Reduced.{Reduced}
use Rattle.mau_rules.specs.Runnable.{IsRunnable, GoesBy}
use Rattle.mau_rules.specs.Known.{Item, Stops}
use Rattle.mau_rules.specs.Found.{item_of, KnownSolving, KnownEvaluation, solving_by}
use Rattle.mau_rules.proofs.Base.{base_gives, base_stops, base_deep, base_overflows}

module _ (p : Typed.Program) (run : IsRunnable p) (m : Meanings) (goes : GoesBy p m) (laws : AreMeanings m) (wanted : Bool) where
  abbrev I : Item
  I = item_of m wanted

  -- ---- conditions

  module _ (c : List Fragment) (σ : Binding) where
    abbrev F : ℕ → ℕ → Run (Option Binding)
    F k B = m.solving k B c σ

    pub same_solving : F ≡ solving_by (program_over p m.hooks) c σ
    same_solving = ap (λ (n : Meanings). (λ k B. n.solving k B c σ)) goes.defined

    abbrev law : StaysUnderLimits F
    law = laws.solving c σ

    pub solving_known : (before : ℕ) (nodes : List Node) (r : Result (Option (List (VarId × TermId) × ℕ)) EvalEnd) (after : ℕ) → MaySolve m (solving_from m None c σ) before nodes r →
        (uses_results m wanted ≡ false → IsSolvedExactly m (solving_from m None c σ) before nodes r after) → OnOk r (LeavesEnough (F levels_of_condition m.limit before) after) →
        KnownSolving I F before nodes r after
    solving_known before nodes (Ok (Some x)) after allowed exact left =
        let w = allowed.1 in (
          allowed.0,
          allowed.2,
          base_gives I F law.stays law.levels law.budgets before after (Some (binding_in nodes x.0)) allowed.0 w.0 w.1 w.2 w.3 w.4 w.5 w.6 w.7 left
              (λ u. let z = exact u in (Some (binding_in nodes x.0), z.is.0, record { level = z.levels; enough = z.enough; just = z.just; is = z.is.1 })),
        )
    solving_known before nodes (Ok None) after allowed exact left =
        let w = allowed.1 in (
          allowed.0,
          base_gives I F law.stays law.levels law.budgets before after None allowed.0 w.0 w.1 w.2 w.3 w.4 w.5 w.6 w.7 left
              (λ u. let z = exact u in (None, z.is.0, record { level = z.levels; enough = z.enough; just = z.just; is = z.is.1 })),
        )
    solving_known before nodes (Err Stopped) after allowed exact left =
        base_stops I F law.stays law.levels law.budgets before allowed.0 allowed.1 (λ u. let z = exact u in record { level = z.levels; enough = z.enough; just = z.just; is = z.is })
    solving_known before nodes (Err TooDeep) after allowed exact left =
        base_deep I F law.stays law.levels law.budgets before allowed.0 allowed.1 allowed.2 (λ u. let z = exact u in record { level = z.levels; enough = z.enough; just = z.just; is = z.is })
    solving_known before nodes (Err Overflow) after allowed exact left =
        base_overflows I F law.stays law.levels law.budgets before allowed.0 allowed.1 allowed.2 allowed.6 (λ u. let z = exact u in record { level = z.levels; enough = z.enough; just = z.just; is = z.is })
    solving_known before nodes (Err NoMemory) after allowed exact left = tt

  -- ---- evaluations

  module _ (t : Tree) where
    abbrev G : ℕ → ℕ → Run Tree
    G k B = m.evaluation (suc k) B t

    pub same_evaluation : G ≡ (λ k B. eval (program_over p m.hooks) (suc k) B t)
    same_evaluation = ap (λ (n : Meanings). (λ k B. n.evaluation (suc k) B t)) goes.defined

    abbrev own : StaysUnderLimits (λ k B. m.evaluation k B t)
    own = laws.evaluation t

    above : StaysTheSame G
    above k k' B B' b c h i = own.stays (suc k) (suc k') B B' b c (omega arith) i

    level_below : (n : ℕ) → levels_of_item ≤ n → suc (n - 1) ≡ n
    level_below n h = omega arith

    enough_below : (n : ℕ) → levels_of_item ≤ n → levels_of_condition ≤ n - 1
    enough_below n h = omega arith

    just_below : (n : ℕ) → n ≡ levels_of_item → n - 1 ≡ levels_of_condition
    just_below n e = omega arith

    on : (n B b : ℕ) (o : Outcome Tree) → levels_of_item ≤ n → m.evaluation n B t b ≡ o → G (n - 1) B b ≡ o
    on n B b o h e = ap (λ j. m.evaluation j B t b) (level_below n h) ∙ e

    pub evaluation_known : (before : ℕ) (nodes : List Node) (r : Result Reduced EvalEnd) (after : ℕ) (remembered : Bool) → IsAllowed m remembered t before nodes r →
        (uses_results m wanted ≡ false → IsExact m t before nodes r after) → OnOk r (LeavesEnough (m.evaluation levels_of_item m.limit t before) after) →
        KnownEvaluation I G before nodes r after
    evaluation_known before nodes (Ok x) after remembered allowed exact left =
        let w = allowed.1 in (
          allowed.0,
          allowed.2,
          base_gives I G above (λ k k' B h. own.levels (suc k) (suc k') B (omega arith)) (λ k B B' h. own.budgets (suc k) B B' h) before after (tree_at nodes x.term.0) allowed.0
              (w.0 - 1) w.1 w.2 w.3 (enough_below w.0 w.4) w.5 w.6 (on w.0 w.1 w.2 (done (tree_at nodes x.term.0) allowed.0 w.3) w.4 w.7) left
              (λ u. let z = exact u in (tree_at nodes x.term.0, z.is.0, record { level = z.levels - 1; enough = enough_below z.levels z.enough; just = λ none. just_below z.levels (z.just none); is = on z.levels m.limit before (done (tree_at nodes x.term.0) z.is.0 after) z.enough z.is.1 })),
        )
    evaluation_known before nodes (Err Stopped) after remembered allowed exact left = by allowed.0
      where
        by : HasCause (λ k B. m.evaluation k B t) levels_of_item m.limit before Stopped → Stops I G before
        by (k, e) =
            base_stops I G above (λ k k' B h. own.levels (suc k) (suc k') B (omega arith)) (λ k B B' h. own.budgets (suc k) B B' h) before k (more k e)
            (λ u. let z = exact u in record { level = z.levels - 1; enough = enough_below z.levels z.enough; just = λ none. just_below z.levels (z.just none); is = on z.levels m.limit before (ended stopped) z.enough z.is })
          where
            clash : (let o : Outcome Tree = ended stopped in o ≡ ended too_deep) → ⊥
            clash q = cc

            more : (k : ℕ) → m.evaluation k m.limit t before ≡ ended stopped → G k m.limit before ≡ ended stopped
            more k e = at (own.levels k (suc k) m.limit (omega arith) before)
              where
                at : (m.evaluation k m.limit t before ≡ ended too_deep) ⊎ (m.evaluation k m.limit t before ≡ m.evaluation (suc k) m.limit t before) → G k m.limit before ≡ ended stopped
                at (inl z) = absurd (clash (sym e ∙ z))
                at (inr z) = sym z ∙ e
    evaluation_known before nodes (Err TooDeep) after remembered allowed exact left =
        base_deep I G above (λ k k' B h. own.levels (suc k) (suc k') B (omega arith)) (λ k B B' h. own.budgets (suc k) B B' h) before allowed.0 allowed.1 allowed.2
        (λ u. let z = exact u in record { level = z.levels - 1; enough = enough_below z.levels z.enough; just = λ none. just_below z.levels (z.just none); is = on z.levels m.limit before (ended too_deep) z.enough z.is })
    evaluation_known before nodes (Err Overflow) after remembered allowed exact left =
        base_overflows I G above (λ k k' B h. own.levels (suc k) (suc k') B (omega arith)) (λ k B B' h. own.budgets (suc k) B B' h) before (allowed.0 - 1) allowed.1 allowed.2
        (on allowed.0 allowed.1 allowed.2 (ended overflowed) allowed.3 allowed.6)
        (λ u. let z = exact u in record { level = z.levels - 1; enough = enough_below z.levels z.enough; just = λ none. just_below z.levels (z.just none); is = on z.levels m.limit before (ended overflowed) z.enough z.is })
    evaluation_known before nodes (Err NoMemory) after remembered allowed exact left = tt
