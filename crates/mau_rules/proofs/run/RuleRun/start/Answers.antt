use Rattle.std.proofs.Common.{ℕ, suc, ap, ◌∙◌}
use Rattle.std.proofs.Math.Path.{fun_ext}
use Rattle.mau_store.specs.Trees.{tree_at}
use Rattle.mau_evaluation.specs.RuleRuns.{Turns}
use Rattle.mau_rules.proofs.Running.{stand_at}
use Rattle.mau_rules.proofs.run.RuleRun.start.Goals as goal

pub returns-clause-stand : goal.returns-clause-stand
returns-clause-stand c = λ nodes. ap (λ (g : Turns). stand_at (tree_at nodes c.args.term.0) g) (fun_ext c.in_ok-turns.ensures.first)

pub returns-clause-run : goal.returns-clause-run
returns-clause-run c = λ nodes is. record { turns = c.in_ok-turns.ensures.as_many ∙ ap (λ (n : ℕ). suc n) c.operators.ensures.value; term = is }
