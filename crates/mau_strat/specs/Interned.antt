-- Configurations by numbers, and the lists that they are made of: variables with their values, what is left to do, and chains of frames. Each of these
-- has a number too, which is its place; the empty list has 0. Terms are numbers of a store, and strategies have numbers.
use Rattle.std.specs.Prelude.{◌≡◌, ◌⊎◌, ℕ, ◌<◌, List, [], ◌∷◌, ◌++◌, All, length}
use Rattle.mau_strat.specs.declared.configs.Bound.{Bound}
use Rattle.mau_strat.specs.declared.configs.Todo.{Todo}
use Rattle.mau_strat.specs.declared.configs.Frame.{Frame}
use Rattle.mau_strat.specs.declared.configs.Config.{Config}
use Rattle.mau_strat.specs.Sharing.{EachOnce, Extends}

pub record Interned : Type 0 where
  pub bindings : List (List Bound)
  pub todos : List (List Todo)
  pub frames : List (List Frame)
  pub configs : List Config

-- no configurations, and of lists the empty ones
abbrev pub nothing : Interned
nothing = record { bindings = [] ∷ []; todos = [] ∷ []; frames = [] ∷ []; configs = [] }

-- no list and no configuration has two numbers, and they are made of what has a number
pub record IsInterned (i : Interned) : Type 0 where
  pub bindings_once : EachOnce i.bindings
  pub todos_once : EachOnce i.todos
  pub frames_once : EachOnce i.frames
  pub configs_once : EachOnce i.configs
  pub todos : All (All (λ d. d.values.0 < length i.bindings)) i.todos
  pub frames : All (All (λ f. (f.test.values.0 < length i.bindings) × (f.after.values.0 < length i.bindings) × (f.behind.0 < length i.todos))) i.frames
  pub configs : All (λ c. (c.todo.0 < length i.todos) × (c.frames.0 < length i.frames)) i.configs

-- what has a number keeps it; more may have one
pub record Grows (old new : Interned) : Type 0 where
  pub bindings : Extends old.bindings new.bindings
  pub todos : Extends old.todos new.todos
  pub frames : Extends old.frames new.frames
  pub configs : Extends old.configs new.configs

-- just this one is added, if it is not there
abbrev pub AddsBinding : Interned → List Bound → Interned → Type 0
AddsBinding old x new = ((new.bindings ≡ old.bindings) ⊎ (new.bindings ≡ old.bindings ++ x ∷ [])) × (new.todos ≡ old.todos) × (new.frames ≡ old.frames) × (new.configs ≡ old.configs)

abbrev pub AddsTodos : Interned → List Todo → Interned → Type 0
AddsTodos old x new = ((new.todos ≡ old.todos) ⊎ (new.todos ≡ old.todos ++ x ∷ [])) × (new.bindings ≡ old.bindings) × (new.frames ≡ old.frames) × (new.configs ≡ old.configs)

abbrev pub AddsFrames : Interned → List Frame → Interned → Type 0
AddsFrames old x new = ((new.frames ≡ old.frames) ⊎ (new.frames ≡ old.frames ++ x ∷ [])) × (new.bindings ≡ old.bindings) × (new.todos ≡ old.todos) × (new.configs ≡ old.configs)

abbrev pub AddsConfig : Interned → Config → Interned → Type 0
AddsConfig old x new = ((new.configs ≡ old.configs) ⊎ (new.configs ≡ old.configs ++ x ∷ [])) × (new.bindings ≡ old.bindings) × (new.todos ≡ old.todos) × (new.frames ≡ old.frames)

-- the numbers of terms and of strategies are below these
pub record IsWithin (terms strategies : ℕ) (i : Interned) : Type 0 where
  pub bindings : All (All (λ b. b.value.0 < terms)) i.bindings
  pub todos : All (All (λ d. d.form.0 < strategies)) i.todos
  pub frames : All (All (λ f. (f.test.form.0 < strategies) × (f.after.form.0 < strategies) × (f.begun.0 < terms))) i.frames
  pub configs : All (λ c. c.term.0 < terms) i.configs
