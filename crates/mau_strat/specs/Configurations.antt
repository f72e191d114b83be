-- The configurations that numbers stand for, over any store and any strategies: `tree n` is the term with the number n, and `strategy n` the strategy.
use Rattle.std.specs.Prelude.{◌≡◌, ◌↔◌, ℕ, ◌<◌, List, map, length, slice_index_or}
use Rattle.mau_terms.specs.Tree.{Tree}
use Rattle.mau_terms.specs.Subst.{Variable}
use Rattle.mau_evaluation.specs.Evaluation.{Binding}
use Rattle.mau_evaluation.specs.Strategy.{Strategy}
use Rattle.mau_evaluation.specs.Configs.{Todo, Frame, test_frame, Config, on}
use Rattle.mau_strat.specs.declared.configs.Bound.{Bound}
use Rattle.mau_strat.specs.declared.configs.Todo.{Todo as StoredTodo}
use Rattle.mau_strat.specs.declared.configs.Frame.{Frame as StoredFrame}
use Rattle.mau_strat.specs.declared.configs.Config.{Config as StoredConfig}
use Rattle.mau_strat.specs.Sharing.{list_at}
use Rattle.mau_strat.specs.Interned.{Interned, IsInterned, Grows, IsWithin}

module _ (tree : ℕ → Tree) (strategy : ℕ → Strategy) where
  abbrev pub bound_of : Bound → Variable × Tree
  bound_of b = ((b.variable.index, b.variable.sort), tree b.value.0)

  module _ (i : Interned) where
    abbrev pub binding_at : ℕ → Binding
    binding_at n = map bound_of (list_at i.bindings n)

    abbrev pub todo_of : StoredTodo → Todo
    todo_of d = record { form = strategy d.form.0; calls = d.calls; values = binding_at d.values.0 }

    abbrev pub todos_at : ℕ → List Todo
    todos_at n = map todo_of (list_at i.todos n)

    abbrev pub frame_of : StoredFrame → Frame
    frame_of f = test_frame (todo_of f.test) (todo_of f.after) (tree f.begun.0) (todos_at f.behind.0)

    abbrev pub frames_at : ℕ → List Frame
    frames_at n = map frame_of (list_at i.frames n)

    abbrev pub config_of : StoredConfig → Config
    config_of c = on (tree c.term.0) (todos_at c.todo.0) (frames_at c.frames.0)

    -- the configuration with a number; past their end one that is never meant
    abbrev pub config_at : ℕ → Config
    config_at n = config_of (slice_index_or i.configs n (record { term = record { 0 = 0 }; todo = record { 0 = 0 }; frames = record { 0 = 0 } }))

-- ---- laws: each is proved, a public function of the module `laws` has it for its contract

-- numbers below n stand for one only if they are one
abbrev pub TellsApart : {A : Type 0} → (ℕ → A) → ℕ → Type 0
TellsApart f n = (j k : ℕ) → j < n → k < n → f j ≡ f k → j ≡ k

-- numbers below n stand for the same
abbrev pub AgreeBelow : {A : Type 0} → (ℕ → A) → (ℕ → A) → ℕ → Type 0
AgreeBelow f g n = (j : ℕ) → j < n → g j ≡ f j

-- numbers of configurations are equal exactly where the configurations are, if numbers of terms and of strategies stand for one only if they are one
abbrev pub OneNumberWhereOneConfig : Type 0
OneNumberWhereOneConfig =
    (i : Interned) → IsInterned i → (terms strategies : ℕ) → IsWithin terms strategies i →
    (tree : ℕ → Tree) → TellsApart tree terms → (strategy : ℕ → Strategy) → TellsApart strategy strategies →
    (c d : ℕ) → c < length i.configs → d < length i.configs → (c ≡ d) ↔ (config_at tree strategy i c ≡ config_at tree strategy i d)

-- a number keeps its configuration as more are interned, if those of terms and of strategies keep theirs
abbrev pub NumbersKeepConfigs : Type 0
NumbersKeepConfigs =
    (old new : Interned) → IsInterned old → Grows old new → (terms strategies : ℕ) → IsWithin terms strategies old →
    (tree tree' : ℕ → Tree) → AgreeBelow tree tree' terms → (strategy strategy' : ℕ → Strategy) → AgreeBelow strategy strategy' strategies →
    (c : ℕ) → c < length old.configs → config_at tree' strategy' new c ≡ config_at tree strategy old c
