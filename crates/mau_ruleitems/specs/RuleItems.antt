-- What is kept of a rule run between items, what the code has for its answer, and what its watcher is told.
use Rattle.std.specs.Prelude.{ℕ, List}
use Rattle.mau_terms.specs.Tree.{Tree}
use Rattle.mau_store.specs.Node.{Node}
use Rattle.mau_store.specs.Trees.{tree_at}
use Rattle.mau_sorts.specs.Table.{Table}
use Rattle.mau_formula.specs.Operator.{Operator}
use Rattle.mau_program.specs.declared.program.Program.{Program}
use Rattle.mau_evaluation.specs.Run.{stopped, too_deep, overflowed}
use Rattle.mau_evaluation.specs.RuleRuns.{Stand}
use Rattle.mau_api.specs.Events.{Event}
use Rattle.mau_results.specs.declared.kind.RunKind.{RunKind}
use Rattle.mau_results.specs.Runs.{RunAnswerOf, run_gives, run_ends}
use Rattle.mau_rules.specs.declared.run.RuleRun.{RuleRun}
use Rattle.mau_rules.specs.Runs.{stand_of, end_of}
use Rattle.mau_rules.specs.Telling.{TellsRules}
use Rattle.mau_ruleitems.specs.declared.running.Running.{Running}
use Rattle.mau_ruleitems.specs.declared.running.RunAnswer.{RunAnswer}
use Rattle.mau_ruleitems.specs.declared.running.RunAnswer.TheVariants.{Value, Stopped, TooDeep, Overflow}

-- a rule run that may go on: its kind, where it stands, and the variables of the command that began it, each by its name and its sort
pub record RuleRunOf : Type 0 where
  pub kind : RunKind
  pub stand : Stand
  pub variables : List (List ℕ × ℕ)

abbrev pub rule_run_of : Running → RuleRunOf
rule_run_of r = record { kind = r.kind; stand = stand_of r.store r.run; variables = r.vars }

-- an answer, after which the run is `run`
abbrev pub run_answer_in : List Node → RuleRun → RunAnswer → RunAnswerOf
run_answer_in nodes run (Value e sort r) = run_gives (stand_of nodes run) (end_of e) sort r
run_answer_in nodes run Stopped = run_ends stopped
run_answer_in nodes run TooDeep = run_ends too_deep
run_answer_in nodes run Overflow = run_ends overflowed

-- where there is a value, what is told grew from old to new by the run that led from the term t to the one of `run`
abbrev pub TellsRun : Program → List Operator → List Node → Table → List Event → List Event → Tree → RuleRun → RunAnswer → Type 0
TellsRun p hooks nodes table old new t run (Value e sort r) = TellsRules p hooks nodes table old new t (tree_at nodes run.term.0) r
TellsRun p hooks nodes table old new t run Stopped = Unit {0}
TellsRun p hooks nodes table old new t run TooDeep = Unit {0}
TellsRun p hooks nodes table old new t run Overflow = Unit {0}
