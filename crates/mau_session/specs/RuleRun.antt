-- Rule runs of a command: which rules keep a module from being rewritten in, and what goes on.
use Rattle.std.specs.Prelude.{ℕ, Bool, true, false, ◌&&◌, Option}
use Rattle.std.specs.List.{list_any, position}
use Rattle.mau_program.specs.declared.statements.Fragment.{Fragment}
use Rattle.mau_program.specs.declared.statements.Fragment.TheVariants.{Reach}
use Rattle.mau_program.specs.declared.statements.Rule.{Rule}
use Rattle.mau_evaluation.specs.RuleRuns.{Stand}
use Rattle.mau_results.specs.declared.kind.RunKind.{RunKind}
use Rattle.mau_module.specs.Modules.{ModuleOf}
use Rattle.mau_session.specs.Terms.{Pairs}

-- a fragment `t => u`
abbrev pub is_rewriting : Fragment → Bool
is_rewriting (Reach t u) = true
is_rewriting _ = false

-- a rule that may be used and whose condition has such a fragment
abbrev pub asks_to_rewrite : Rule → Bool
asks_to_rewrite q = q.exec && list_any is_rewriting q.cond

-- the number of the first such rule of a module, counted from 0: in such a module terms are not rewritten
abbrev pub rewriting_condition : ModuleOf → Option ℕ
rewriting_condition m = position asks_to_rewrite m.statements.rules

-- a rule run that may go on: its kind, where it stands, and the variables of the command that began it
pub record RuleRunOf : Type 0 where
  pub kind : RunKind
  pub stand : Stand
  pub variables : Pairs
