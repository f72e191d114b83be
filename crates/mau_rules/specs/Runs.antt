-- What a rule run stands for, and what its calls answer: by the runs of mau_evaluation.
use Rattle.std.specs.Prelude.{◌≡◌, ◌⊎◌, ◌≤◌, ℕ, suc, List, length, slice_index, Option, Result, Ok, Err}
use Rattle.mau_terms.specs.Tree.{Tree}
use Rattle.mau_store.specs.Node.{Node}
use Rattle.mau_store.specs.Trees.{tree_at}
use Rattle.mau_program.specs.declared.program.Program as Typed
use Rattle.mau_evaluation.specs.Run.{Outcome, done, ended, Run, stopped, too_deep, overflowed}
use Rattle.mau_evaluation.specs.RuleRuns.{Turns, Stand, PassEnd, normal, bound, rewrite_at, frewrite_at}
use Rattle.mau_evaluation.specs.RuleRuns as Definition
use Rattle.mau_api.specs.Terms.{IsTerm}
use Rattle.mau_api.specs.Told.{shown_count}
use Rattle.mau_api.specs.Programs.{program_over}
use Rattle.mau_api.specs.Meanings.{Meanings}
use Rattle.mau_api.specs.Answers.{levels_of_condition, DerivesNothing, GivesUnder, HasCause}
use Rattle.mau_api.specs.declared.results.Reduced.{Reduced}
use Rattle.mau_api.specs.declared.results.EvalEnd.{EvalEnd}
use Rattle.mau_api.specs.declared.results.EvalEnd.TheVariants.{Stopped, TooDeep, Overflow, NoMemory}
use Rattle.mau_rules.specs.declared.run.RuleEnd.{RuleEnd}
use Rattle.mau_rules.specs.declared.run.RuleEnd.TheVariants.{Normal, Bound}
use Rattle.mau_rules.specs.declared.run.RuleRun.{RuleRun}

-- ---- what a run stands for

-- how many rules stand before the one that is tried first, by the number of an operator; past the end of the list none does
abbrev pub turns_of : List ℕ → Turns
turns_of kept = λ f. slice_index kept f

-- its term, over the nodes of a store, and the turns of the rules
abbrev pub stand_of : List Node → RuleRun → Stand
stand_of nodes run = record { term = tree_at nodes run.term.0; turns = turns_of run.turns.items }

-- from a term on, with the rules from the first on
abbrev pub begins_with : Tree → Stand
begins_with t = record { term = t; turns = λ f. 0 }

-- it is a run of this program: there is a place for the turn of each operator, and its term may be evaluated
pub record IsRunOf (p : Typed.Program) (nodes : List Node) (run : RuleRun) : Type 0 where
  pub turns : length run.turns.items ≡ suc (length p.sig.declarations)
  pub term : IsTerm p.sig nodes run.term.0

-- ---- what its calls answer

abbrev pub end_of : RuleEnd → Definition.RuleEnd
end_of Normal = normal
end_of Bound = bound

-- where a run ends, and how
abbrev pub ended_at : List Node → RuleRun → RuleEnd → PassEnd
ended_at nodes run e = (stand_of nodes run, end_of e)

-- the outcome is this answer, after which the run is `run`; want of memory says nothing
abbrev pub IsRunAnswered : Outcome PassEnd → List Node → RuleRun → Result (RuleEnd × Reduced) EvalEnd → Type 0
IsRunAnswered o nodes run (Ok x) = (r : ℕ) × (left : ℕ) × (o ≡ done (ended_at nodes run x.0) r left) × (x.1.rewrites ≡ shown_count r)
IsRunAnswered o nodes run (Err Stopped) = o ≡ ended stopped
IsRunAnswered o nodes run (Err TooDeep) = o ≡ ended too_deep
IsRunAnswered o nodes run (Err Overflow) = o ≡ ended overflowed
IsRunAnswered o nodes run (Err NoMemory) = Unit {0}

-- f is a run under so many levels for conditions, a budget of each condition of a membership, and a budget. The answer is that for just the budget given, and for
-- the levels of a condition that an item asks or, where sorts were derived before, for more
pub record IsRunExactly (m : Meanings) (f : ℕ → ℕ → Run PassEnd) (budget : ℕ) (nodes : List Node) (run : RuleRun) (answer : Result (RuleEnd × Reduced) EvalEnd) : Type 0 where
  pub levels : ℕ
  pub enough : levels_of_condition ≤ levels
  pub just : DerivesNothing m → levels ≡ levels_of_condition
  pub is : IsRunAnswered (f levels m.limit budget) nodes run answer

-- where results may be remembered: what the run comes to is that for larger limits; it is stopped only where by the limits of an item the run is stopped or too
-- deep; and the other ends have their causes
abbrev pub MayRun : Meanings → (ℕ → ℕ → Run PassEnd) → ℕ → List Node → RuleRun → Result (RuleEnd × Reduced) EvalEnd → Type 0
MayRun m f budget nodes run (Ok x) = (r : ℕ) × GivesUnder f levels_of_condition m.limit budget (ended_at nodes run x.0) r × (x.1.rewrites ≡ shown_count r)
MayRun m f budget nodes run (Err Stopped) = (f levels_of_condition m.limit budget ≡ ended too_deep) ⊎ (f levels_of_condition m.limit budget ≡ ended stopped)
MayRun m f budget nodes run (Err e) = HasCause f levels_of_condition m.limit budget e

-- the rewrite run of a stand, under limits: by so many levels for conditions and one more for other terms
abbrev pub rewriting_by : Typed.Program → Meanings → Option ℕ → Stand → ℕ → ℕ → Run PassEnd
rewriting_by p m n s k B = rewrite_at (program_over p m.hooks) k B n s

-- the frewrite run of a stand with up to g rewrites at each top, under limits
abbrev pub frewriting_by : Typed.Program → Meanings → ℕ → Option ℕ → Stand → ℕ → ℕ → Run PassEnd
frewriting_by p m g n s k B = frewrite_at (program_over p m.hooks) k B g n s
