-- What the code keeps of a rule run, and has for its answer.
use Rattle.std.specs.Prelude.{◌≡◌, List, None}
use Rattle.mau_store.specs.Node.{Node}
use Rattle.mau_evaluation.specs.Run.{stopped, too_deep, overflowed}
use Rattle.mau_evaluation.specs.RuleRuns.{Stand}
use Rattle.mau_api.specs.Meanings.{Meanings}
use Rattle.mau_results.specs.Runs.{RunAnswerOf, run_gives, run_ends, MayRun}
use Rattle.mau_rules.specs.declared.run.RuleRun.{RuleRun}
use Rattle.mau_rules.specs.Runs.{stand_of, end_of, IsRunOf}
use Rattle.mau_module.specs.Modules.{ModuleOf}
use Rattle.mau_module.specs.Lawful.{program_of}
use Rattle.mau_session.specs.declared.running.Running.{Running}
use Rattle.mau_session.specs.declared.running.RunAnswer.{RunAnswer}
use Rattle.mau_session.specs.declared.running.RunAnswer.TheVariants.{Value, Stopped, TooDeep, Overflow}
use Rattle.mau_session.specs.RuleRun.{RuleRunOf, rewriting_condition}

abbrev pub rule_run_of : Running → RuleRunOf
rule_run_of r = record { kind = r.kind; stand = stand_of r.store r.run; variables = r.vars }

-- no condition of the module rewrites, and it is a run of the module's program
pub record IsReadyRun (m : ModuleOf) (r : Running) : Type 0 where
  pub conditions : rewriting_condition m ≡ None
  pub run : IsRunOf (program_of m) r.store r.run

-- an answer, after which the run is `run`
abbrev pub run_answer_in : List Node → RuleRun → RunAnswer → RunAnswerOf
run_answer_in nodes run (Value e sort r) = run_gives (stand_of nodes run) (end_of e) sort r
run_answer_in nodes run Stopped = run_ends stopped
run_answer_in nodes run TooDeep = run_ends too_deep
run_answer_in nodes run Overflow = run_ends overflowed
