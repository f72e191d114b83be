-- Strategies and configurations by numbers in a setting: what holds of them, and how they grow.
use Rattle.std.specs.Prelude.{◌≡◌, ℕ, ◌<◌, ◌≤◌, List, [], map, length, slice_get, All, Some}
use Rattle.mau_evaluation.specs.Strategy.{Strategy}
use Rattle.mau_evaluation.specs.Evaluation.{Binding}
use Rattle.mau_evaluation.specs.Configs.{Todo, Frame, Config}
use Rattle.mau_strat.specs.declared.configs.Todo.{Todo as StoredTodo}
use Rattle.mau_strat.specs.declared.forms.Form.{Form}
use Rattle.mau_strat.specs.Sharing.{Extends}
use Rattle.mau_strat.specs.Interned.{Interned, IsInterned, Grows, IsWithin}
use Rattle.mau_strat.specs.Configurations.{binding_at, todo_of, todos_at, frames_at, config_at, TellsApart, AgreeBelow}
use Rattle.mau_strat.specs.Forms.{AreForms, LeafIn, strategy_at}
use Rattle.mau_stratrun.specs.Settings.{Setting, IsFixed}
use Rattle.mau_stratrun.specs.Yields.{BeginsBy, NextBy}

pub record State : Type 0 where
  pub setting : Setting
  pub forms : List Form
  pub interned : Interned

-- ---- what numbers stand for

abbrev pub strategy_in : State → ℕ → Strategy
strategy_in s = strategy_at s.setting.fixed.leaf s.forms

abbrev pub binding_in : State → ℕ → Binding
binding_in s = binding_at s.setting.tree (strategy_in s) s.interned

abbrev pub todo_in : State → StoredTodo → Todo
todo_in s = todo_of s.setting.tree (strategy_in s) s.interned

abbrev pub todos_in : State → ℕ → List Todo
todos_in s = todos_at s.setting.tree (strategy_in s) s.interned

abbrev pub frames_in : State → ℕ → List Frame
frames_in s = frames_at s.setting.tree (strategy_in s) s.interned

abbrev pub config_in : State → ℕ → Config
config_in s = config_at s.setting.tree (strategy_in s) s.interned

abbrev pub IsConfig : State → ℕ → Type 0
IsConfig s c = c < length s.interned.configs

-- ---- what holds

-- numbers below these stand for one only if they are one, and all is made of what has a number; the empty lists have the number 0
pub record IsState (s : State) : Type 0 where
  pub fixed : IsFixed s.setting.fixed
  pub trees : TellsApart s.setting.tree s.setting.terms
  pub forms : AreForms s.forms
  pub leaves : All (LeafIn s.setting.fixed.leaves) s.forms
  pub interned : IsInterned s.interned
  pub within : IsWithin s.setting.terms (length s.forms) s.interned
  pub no_values : slice_get s.interned.bindings 0 ≡ Some []
  pub no_todos : slice_get s.interned.todos 0 ≡ Some []
  pub no_frames : slice_get s.interned.frames 0 ≡ Some []

-- what has a number keeps it, and stands for the same
pub record Larger (old new : State) : Type 0 where
  pub fixed : new.setting.fixed ≡ old.setting.fixed
  pub terms : old.setting.terms ≤ new.setting.terms
  pub trees : AgreeBelow old.setting.tree new.setting.tree old.setting.terms
  pub forms : Extends old.forms new.forms
  pub interned : Grows old.interned new.interned

-- ---- successors by numbers

abbrev pub begins_in : State → ℕ → List ℕ → Type 0
begins_in s e cs = IsConfig s e × All (IsConfig s) cs × BeginsBy s.setting.fixed (config_in s e) (map (config_in s) cs)

abbrev pub next_in : State → ℕ → List ℕ → Type 0
next_in s e cs = IsConfig s e × All (IsConfig s) cs × NextBy s.setting.fixed (config_in s e) (map (config_in s) cs)
