-- What a step adds to the numbers of strategies and configurations.
use Rattle.std.specs.Prelude.{◌≡◌, ◌⊎◌, ℕ, List, length, drop, slice_get, Option, Some, None, Result, IfOk}
use Rattle.mau_evaluation.specs.Configs.{Todo, Config}
use Rattle.mau_strat.specs.declared.configs.Bound.{Bound}
use Rattle.mau_strat.specs.declared.configs.Todo.{Todo as StoredTodo}
use Rattle.mau_strat.specs.declared.configs.Config.{Config as StoredConfig}
use Rattle.mau_strat.specs.declared.forms.Form.{Form}
use Rattle.mau_strat.specs.Sharing.{Extends}
use Rattle.mau_strat.specs.Interned.{Interned, Grows}
use Rattle.mau_stratrun.specs.Settings.{Setting}
use Rattle.mau_stratrun.specs.States.{State, strategy_in, binding_in, config_in, IsState, IsConfig}
use Rattle.mau_stratrun.specs.Yields.{BeginsBy, IsAnswer}
use Rattle.mau_terms.specs.declared.memory.NoMemory.{NoMemory}
use Rattle.mau_strat.specs.Configurations.{config_of}

abbrev pub state_of : Setting → List Form → Interned → State
state_of g forms i = record { setting = g; forms = forms; interned = i }

-- further strategies and configurations, these on one term, and values of variables
pub record GoesTo (g : Setting) (forms : List Form) (i : Interned) (forms' : List Form) (i' : Interned) (term : ℕ) (values : List Bound) : Type 0 where
  pub state : IsState (state_of g forms' i')
  pub extends : Extends forms forms'
  pub grows : Grows i i'
  pub bindings : (n : ℕ) (xs : List Bound) → slice_get i'.bindings n ≡ Some xs → (slice_get i.bindings n ≡ Some xs) ⊎ ((k : ℕ) × (xs ≡ drop k values))
  pub terms : (n : ℕ) (c : StoredConfig) → slice_get i'.configs n ≡ Some c → (slice_get i.configs n ≡ Some c) ⊎ (c.term.0 ≡ term)

-- a strategy with the calls and the values of another
abbrev pub todo_by : State → StoredTodo → ℕ → Todo
todo_by s own e = record { form = strategy_in s e; calls = own.calls; values = binding_in s own.values.0 }

-- the configuration that is made of numbers
abbrev pub made_in : State → StoredConfig → Config
made_in s c = config_of s.setting.tree (strategy_in s) s.interned c

-- what comes behind the first successors, by its number
abbrev pub IsNumberOf : State → State → Config → List Config → Option ℕ → Type 0
IsNumberOf s s' c given None = IsAnswer s.setting.fixed c given None
IsNumberOf s s' c given (Some n) = IsConfig s' n × IsAnswer s.setting.fixed c given (Some (config_in s' n))

-- what a call answers that is asked for the successor at a place of a configuration
abbrev pub Answers : State → Config → ℕ → State → Result (Option ℕ) NoMemory → Type 0
Answers s c at s' result = (given : List Config) → BeginsBy s.setting.fixed c given → length given ≡ at → IfOk result (IsNumberOf s s' c given)
