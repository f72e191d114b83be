-- The successors of `E ? F : G`, by numbers.
use Rattle.std.specs.Prelude.{◌≡◌, ℕ, ◌<◌, List, [], map, length, slice_get, slice_index, All, Contains, Some}
use Rattle.mau_terms.specs.Tree.{Tree}
use Rattle.mau_evaluation.specs.Engine.{engine_of}
use Rattle.mau_evaluation.specs.Strategy.{branch}
use Rattle.mau_evaluation.specs.Configs.{Todo, Frame, test_frame, Config}
use Rattle.mau_evaluation.specs.Reach.{At, ClosedBehind}
use Rattle.mau_evaluation.specs.Eventually.{RunsTo}
use Rattle.mau_strat.specs.declared.configs.Todo.{Todo as StoredTodo}
use Rattle.mau_strat.specs.declared.configs.Config.{Config as StoredConfig}
use Rattle.mau_strat.specs.Sharing.{list_at}
use Rattle.mau_strat.specs.Interned.{Interned}
use Rattle.mau_stratrun.specs.declared.branch.Branch.{Branch}
use Rattle.mau_stratrun.specs.Yields.{BeginsBy, NextBy}
use Rattle.mau_stratrun.specs.States.{State, strategy_in, todo_in, todos_in, config_in}
use Rattle.mau_stratrun.specs.Moves.{todo_by}

-- ---- results inside a chain of frames

abbrev pub IsResult : Interned → ℕ → StoredConfig → Type 0
IsResult i frames c = (c.frames.0 ≡ frames) × (list_at i.todos c.todo.0 ≡ [])

abbrev pub HasResult : Interned → List ℕ → ℕ → Type 0
HasResult i seen frames = (j : ℕ) × (c : StoredConfig) × (j < length seen) × (slice_get i.configs (slice_index seen j) ≡ Some c) × IsResult i frames c

-- ---- the branch

-- the frame inside which it goes, begun on a term, where `own` stands before the rest
abbrev pub frame_on : State → ℕ → StoredTodo → ℕ → ℕ → Frame
frame_on s term own rest then = test_frame (todo_in s own) (todo_by s own then) (s.setting.tree term) (todos_in s rest)

abbrev pub IsBranchAt : State → ℕ → Branch → Type 0
IsBranchAt s n b = (strategy_in s n ≡ branch (strategy_in s b.test.0) (strategy_in s b.then.0) (strategy_in s b.other.0)) × (n < length s.forms) × (b.test.0 < length s.forms) × (b.then.0 < length s.forms) × (b.other.0 < length s.forms)

-- a run is at c, of which so many successors were given, all of them listed
pub record IsAtPlace (s : State) (c : Config) (seen : List ℕ) (at : ℕ) : Type 0 where
  pub start : Tree
  pub strategy : Todo
  pub runs : RunsTo s.setting.fixed.program (engine_of s.setting.fixed.program) s.setting.fixed.definitions start strategy (map (config_in s) seen)
  pub entry : ℕ
  pub stands : At (map (config_in s) seen) entry c
  pub behind : ClosedBehind (BeginsBy s.setting.fixed) (NextBy s.setting.fixed) (map (config_in s) seen) entry
  pub given : List Config
  pub begins : BeginsBy s.setting.fixed c given
  pub count : length given ≡ at
  pub listed : All (Contains (map (config_in s) seen)) given
