-- The laws of limits for rule runs, from those of evaluations.
use Rattle.std.proofs.Common.{ℕ, suc, ◌-◌, Option, arith}
use Rattle.mau_evaluation.specs.Program.{Program}
use Rattle.mau_evaluation.specs.Run.{End, stopped}
use Rattle.mau_evaluation.specs.Evaluation.{levels, solve, admit}
use Rattle.mau_evaluation.specs.RuleRuns.{Stand, rewrite_at, frewrite_at}
use Rattle.mau_evaluation.specs.StrategyLaws.{RuleRunsStay, LevelsAloneInRuns, BudgetsAloneInRuns}
use Rattle.mau_evaluation.proofs.Alike.{AreAlike, IsAlikeLevel, solve_alike, admit_alike}
use Rattle.mau_evaluation.proofs.Limits.{IsTooDeep, IsNone, never_more, levels_above, higher, IsStopped, may_stop, levels_richer, richer, difference}
use Rattle.mau_evaluation.proofs.Levels.{IsForLimits, IsAny, levels_same, grows}
use Rattle.mau_evaluation.proofs.Levels as larger
use Rattle.mau_evaluation.proofs.Stay.{stays}
use Rattle.mau_evaluation.proofs.RunsAlike.{rewrite_run_alike, frewrite_run_alike}

module _ (excused : End → Type 0) (D : ℕ → Type 0) (stops : (d : ℕ) → D (suc d) → excused stopped) (P : Program) (B B' k k' : ℕ)
    (l : IsAlikeLevel excused D stops (levels P B k) (levels P B' k')) (m : IsAlikeLevel excused D stops (levels P B (suc k)) (levels P B' (suc k'))) where
  rewrite_alike : (n : Option ℕ) (s : Stand) → AreAlike excused D stops (rewrite_at P k B n s) (rewrite_at P k' B' n s)
  rewrite_alike n s =
      rewrite_run_alike excused D stops P (levels P B (suc k)).eval (levels P B' (suc k')).eval (levels P B (suc k)).sorts (levels P B' (suc k')).sorts (solve P (levels P B k)) (solve P (levels P B' k'))
      m.eval_alike m.sorts_alike (solve_alike excused D stops P (levels P B k) (levels P B' k') l) n s

  frewrite_alike : (g : ℕ) (n : Option ℕ) (s : Stand) → AreAlike excused D stops (frewrite_at P k B g n s) (frewrite_at P k' B' g n s)
  frewrite_alike g n s =
      frewrite_run_alike excused D stops P (levels P B (suc k)).eval (levels P B' (suc k')).eval (levels P B (suc k)).sorts (levels P B' (suc k')).sorts (solve P (levels P B k)) (solve P (levels P B' k'))
      m.eval_alike m.sorts_alike (solve_alike excused D stops P (levels P B k) (levels P B' k') l) (admit P.sign.theory) (admit P.sign.theory) (admit_alike excused D stops P.sign.theory) g n s

pub rule_runs_stay : RuleRunsStay
rule_runs_stay = (
  (λ P n s. stays (λ k B. rewrite_at P k B n s) λ k k' B B' h i.
      grows (rewrite_at P k B n s) (rewrite_at P k' B' n s) (rewrite_alike IsForLimits IsAny larger.may_stop P B B' k k' (levels_same P B B' (B' - B) (difference B B' i) k k' h) (levels_same P B B' (B' - B) (difference B B' i) (suc k) (suc k') (omega arith)) n s)),
  (λ P g n s. stays (λ k B. frewrite_at P k B g n s) λ k k' B B' h i.
      grows (frewrite_at P k B g n s) (frewrite_at P k' B' g n s) (frewrite_alike IsForLimits IsAny larger.may_stop P B B' k k' (levels_same P B B' (B' - B) (difference B B' i) k k' h) (levels_same P B B' (B' - B) (difference B B' i) (suc k) (suc k') (omega arith)) g n s)),
)

pub levels_alone_in_runs : LevelsAloneInRuns
levels_alone_in_runs = (
  (λ P k k' B h n s. higher (rewrite_at P k B n s) (rewrite_at P k' B n s) (rewrite_alike IsTooDeep IsNone never_more P B B k k' (levels_above P B k k' h) (levels_above P B (suc k) (suc k') (omega arith)) n s)),
  (λ P k k' B h g n s. higher (frewrite_at P k B g n s) (frewrite_at P k' B g n s) (frewrite_alike IsTooDeep IsNone never_more P B B k k' (levels_above P B k k' h) (levels_above P B (suc k) (suc k') (omega arith)) g n s)),
)

pub budgets_alone_in_runs : BudgetsAloneInRuns
budgets_alone_in_runs = (
  (λ P k B B' h n s. richer (rewrite_at P k B n s) (rewrite_at P k B' n s) (rewrite_alike IsStopped IsAny may_stop P B B' k k (levels_richer P B B' (difference B B' h) k) (levels_richer P B B' (difference B B' h) (suc k)) n s)),
  (λ P k B B' h g n s. richer (frewrite_at P k B g n s) (frewrite_at P k B' g n s) (frewrite_alike IsStopped IsAny may_stop P B B' k k (levels_richer P B B' (difference B B' h) k) (levels_richer P B B' (difference B B' h) (suc k)) g n s)),
)
