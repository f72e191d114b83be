-- What a run keeps beside what it has listed.
use Rattle.std.specs.Prelude.{◌≡◌, ℕ, ◌-◌, ◌<◌, List, [], ◌∷◌, ◌++◌, map, length, slice_get, slice_index, All, Bool, true, false, Option, Some, None, IsSome, Result, Ok, Err}
use Rattle.mau_terms.specs.Tree.{Tree}
use Rattle.mau_evaluation.specs.Configs.{Todo, Frame, Config, on}
use Rattle.mau_strat.specs.declared.configs.Bound.{Bound}
use Rattle.mau_strat.specs.declared.configs.StrategyId.{StrategyId}
use Rattle.mau_strat.specs.declared.configs.Config.{Config as StoredConfig}
use Rattle.mau_strat.specs.declared.forms.Form.{Form}
use Rattle.mau_strat.specs.Interned.{Interned, Grows}
use Rattle.mau_stratrun.specs.declared.leaves.Yielded.{Yielded}
use Rattle.mau_stratrun.specs.declared.leaves.Yielded.TheVariants.{Term, Body as BodyOf}
use Rattle.mau_stratrun.specs.declared.leaves.LeafEnd.{LeafEnd}
use Rattle.mau_terms.specs.declared.memory.NoMemory.{NoMemory}
use Rattle.mau_stratrun.specs.declared.cursor.Kept.{Kept}
use Rattle.mau_stratrun.specs.Yields.{Yield, after, BeginsBy, NextBy, YieldsFirst, IsEnd}
use Rattle.mau_stratrun.specs.Worlds.{World, body_at, yield_of, IsYielded}
use Rattle.mau_stratrun.specs.Settings.{strategy_of, IsLeadIn}
use Rattle.mau_stratrun.specs.declared.leaves.Lead.{Lead}
use Rattle.mau_stratrun.specs.States.{State, strategy_in, config_in, IsConfig, IsState, Larger}
use Rattle.mau_stratrun.specs.Moves.{state_of, IsNumberOf}

-- the bodies of definitions have these numbers
pub record HasBodies (bodies : List StrategyId) (s : State) : Type 0 where
  pub count : length bodies ≡ length s.setting.fixed.definitions
  pub numbers : (n : ℕ) (b : StrategyId) → slice_get bodies n ≡ Some b → (b.0 < length s.forms) × (strategy_in s b.0 ≡ body_at s.setting.fixed.definitions n)

module _ {C : Type 0} (w : World C) (forms : List Form) (i : Interned) where
  abbrev pub state_in : State
  state_in = state_of w.setting forms i

  -- terms of configurations, and values of variables, are what they may be
  pub record HasFacts (bodies : List StrategyId) : Type 0 where
    pub state : IsState state_in
    pub terms : All (λ c. w.is_term c.term.0) i.configs
    pub values : All (All w.is_bound) i.bindings
    pub has_bodies : HasBodies bodies state_in

  -- what the cursor has yielded: what was given, and what is pending
  abbrev pub Yielding : Todo → Tree → List Yield → Option Yielded → C → Type 0
  Yielding d t ys None cursor = w.yields cursor d t ys × YieldsFirst w.setting.fixed d t ys
  Yielding d t ys (Some y) cursor = w.yields cursor d t (ys ++ yield_of w.setting t y ∷ []) × YieldsFirst w.setting.fixed d t (ys ++ yield_of w.setting t y ∷ []) × IsYielded w y

  abbrev pub GivenOn : Tree → List Todo → List Frame → List Config → Option Yielded → C → Type 0
  GivenOn t [] xs given pending cursor = ⊥
  GivenOn t (d ∷ ds) xs given pending cursor = (ys : List Yield) × (given ≡ map (after ds xs) ys) × Yielding d t ys pending cursor

  -- a cursor for a configuration, with the numbers of the successors that were given
  pub record IsKept (k : Kept C) : Type 0 where
    pub config : IsConfig state_in k.config
    pub given : All (IsConfig state_in) k.given.items
    pub yielding : GivenOn (config_in state_in k.config).term (config_in state_in k.config).todo (config_in state_in k.config).frames (map (config_in state_in) k.given.items) k.pending k.cursor

-- the first that is listed is the start
pub record IsListed (s : State) (seen : List ℕ) : Type 0 where
  pub configs : All (IsConfig s) seen
  pub some : 0 < length seen
  pub start : Tree
  pub strategy : Todo
  pub first : config_in s (slice_index seen 0) ≡ on start (strategy ∷ []) []

-- nothing is left to do, and no frame is open
abbrev pub is_solution_on : List Todo → List Frame → Bool
is_solution_on [] [] = true
is_solution_on [] (x ∷ xs) = false
is_solution_on (d ∷ ds) xs = false

abbrev pub is_solution : Config → Bool
is_solution c = is_solution_on c.todo c.frames

-- ---- answers

-- what a call answers that is asked for the successor at a place of a configuration, or its end
abbrev pub AnswerIs : State → Config → List Config → State → Result (Option ℕ) LeafEnd → Type 0
AnswerIs s c given s' (Ok o) = IsNumberOf s s' c given o
AnswerIs s c given s' (Err e) = IsEnd s.setting.fixed c given e

abbrev pub AnswersBy : State → Config → ℕ → State → Result (Option ℕ) LeafEnd → Type 0
AnswersBy s c at s' result = (given : List Config) → BeginsBy s.setting.fixed c given → length given ≡ at → AnswerIs s c given s' result

-- the number of the term, and the values, that come with what is yielded on a configuration
abbrev pub term_on : StoredConfig → Yielded → ℕ
term_on c (Term u) = u.0
term_on c (BodyOf b) = c.term.0

abbrev pub values_on : Yielded → List Bound
values_on (Term u) = []
values_on (BodyOf b) = b.values.items

-- a body is that of one of so many definitions
abbrev pub IsDefined : ℕ → Yielded → Type 0
IsDefined n (Term u) = Unit {0}
IsDefined n (BodyOf b) = b.definition < n

-- ---- what is asked of a cursor

module _ {C : Type 0} (w : World C) (forms : List Form) (i : Interned) (k : Kept C) where
  abbrev pub config_of : Config
  config_of = config_in (state_in w forms i) k.config

  abbrev pub given_of : List Config
  given_of = map (config_in (state_in w forms i)) k.given.items

-- one is pending; or those that were given are all; or an end that has its cause, after which those were given that were
abbrev pub IsAsked : {C : Type 0} → World C → List Form → Interned → Kept C → Kept C → Result Bool LeafEnd → Type 0
IsAsked w forms i old new (Ok true) = IsKept w forms i new × IsSome new.pending × (new.config ≡ old.config) × (new.given.items ≡ old.given.items)
IsAsked w forms i old new (Ok false) = NextBy w.setting.fixed (config_of w forms i old) (given_of w forms i old)
IsAsked w forms i old new (Err e) =
    IsKept w forms i new × (new.config ≡ old.config) × (new.given.items ≡ old.given.items) ×
    BeginsBy w.setting.fixed (config_of w forms i old) (given_of w forms i old) × IsEnd w.setting.fixed (config_of w forms i old) (given_of w forms i old) e

-- what is pending was given its number, or all is as it was
abbrev pub SettledIs : {C : Type 0} → World C → List Form → Interned → Kept C → Result ℕ NoMemory → Type 0
SettledIs w forms i k (Ok n) = IsConfig (state_in w forms i) n × BeginsBy w.setting.fixed (config_of w forms i k) (given_of w forms i k ++ config_in (state_in w forms i) n ∷ [])
SettledIs w forms i k (Err e) = Unit {0}

pub record IsSettled {C : Type 0} (w : World C) (forms : List Form) (i : Interned) (bodies : List StrategyId) (i' : Interned) (old new : Kept C) (result : Result ℕ NoMemory) : Type 0 where
  pub facts : HasFacts w forms i' bodies
  pub grows : Grows i i'
  pub kept : IsKept w forms i' new
  pub same : new.config ≡ old.config
  pub settled : SettledIs w forms i' old result

-- the successor at a place, or an end; where there is none the cursor is done with
abbrev pub StaysKept : {C : Type 0} → World C → List Form → Interned → Kept C → Result (Option ℕ) LeafEnd → Type 0
StaysKept w forms i k (Ok None) = Unit {0}
StaysKept w forms i k (Ok (Some n)) = IsKept w forms i k
StaysKept w forms i k (Err e) = IsKept w forms i k

pub record IsGiven {C : Type 0} (w : World C) (forms : List Form) (i : Interned) (bodies : List StrategyId) (w' : World C) (i' : Interned) (old new : Kept C) (at : ℕ) (result : Result (Option ℕ) LeafEnd) : Type 0 where
  pub facts : HasFacts w' forms i' bodies
  pub grows : Grows i i'
  pub kept : StaysKept w' forms i' new result
  pub answer : AnswersBy (state_in w forms i) (config_of w forms i old) at (state_in w' forms i') result

-- ---- a run by its numbers

-- the cursors that are kept are right
pub record IsCourse {C : Type 0} (w : World C) (forms : List Form) (bodies : List StrategyId) (i : Interned) (cursors' : List (Kept C)) : Type 0 where
  pub facts : HasFacts w forms i bodies
  pub kept : All (IsKept w forms i) cursors'

-- the last cursor is for this configuration
abbrev pub IsLastFor : {C : Type 0} → List (Kept C) → ℕ → Type 0
IsLastFor {C = C} ks n = (k : Kept C) × (0 < length ks) × (slice_get ks (length ks - 1) ≡ Some k) × (k.config ≡ n)

-- what is asked for the successor at a place of c
pub record IsStep {C : Type 0} (w : World C) (forms : List Form) (i : Interned) (w' : World C) (forms' : List Form) (i' : Interned) (bodies : List StrategyId) (cursors' : List (Kept C)) (c : Config) (at : ℕ)
    (result : Result (Option ℕ) LeafEnd) : Type 0 where
  pub course : IsCourse w' forms' bodies i' cursors'
  pub larger : Larger (state_in w forms i) (state_in w' forms' i')
  pub answer : AnswersBy (state_in w forms i) c at (state_in w' forms' i') result

-- the strategy is asked for by this, and its successors come by a cursor
abbrev pub IsLeadOf : State → ℕ → Lead → Type 0
IsLeadOf s n lead = (strategy_in s n ≡ strategy_of s.setting.fixed.leaf lead) × IsLeadIn s.setting.fixed.leaves lead
