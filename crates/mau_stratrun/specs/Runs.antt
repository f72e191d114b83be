-- A run of a strategy: what holds of it, and what it answers.
use Rattle.std.specs.Prelude.{◌≡◌, ◌⊎◌, ℕ, ◌≤◌, List, [], ◌∷◌, ◌++◌, length, map, slice_index, All, Contains, false, Option, Some, None, Result, Ok, Err}
use Rattle.mau_terms.specs.Tree.{Tree}
use Rattle.mau_terms.specs.declared.ids.TermId.{TermId}
use Rattle.mau_evaluation.specs.Engine.{engine_of}
use Rattle.mau_evaluation.specs.Strategy.{Strategy}
use Rattle.mau_evaluation.specs.Satisfies.{Sat, Cut}
use Rattle.mau_evaluation.specs.Configs.{Todo, Config, on}
use Rattle.mau_evaluation.specs.Reach.{IsClosed, IsNextEntry, IsAsked}
use Rattle.mau_evaluation.specs.Eventually.{Eventually}
use Rattle.mau_strat.specs.declared.configs.StrategyId.{StrategyId}
use Rattle.mau_strat.specs.declared.walk.Open.{Open}
use Rattle.mau_strat.specs.declared.walk.WalkEnd.{WalkEnd}
use Rattle.mau_strat.specs.declared.walk.WalkEnd.TheVariants.{TooMany, Ended, NoMemory as NoRoom}
use Rattle.mau_strat.specs.declared.forms.Form.{Form}
use Rattle.mau_strat.specs.Forms.{strategy_at}
use Rattle.mau_strat.specs.Interned.{Interned}
use Rattle.mau_strat.specs.Traces.{IsWay}
use Rattle.mau_strat.specs.Walks.{IsRun}
use Rattle.mau_stratrun.specs.declared.leaves.LeafEnd.{LeafEnd}
use Rattle.mau_stratrun.specs.declared.leaves.LeafEnd.TheVariants.{Stopped, TooDeep, Overflow, CallDepth, NoMemory}
use Rattle.mau_stratrun.specs.declared.cursor.Kept.{Kept}
use Rattle.mau_stratrun.specs.Settings.{Fixed}
use Rattle.mau_stratrun.specs.Yields.{BeginsBy, NextBy, IsEnd}
use Rattle.mau_stratrun.specs.Worlds.{World}
use Rattle.mau_stratrun.specs.States.{State, config_in, IsConfig, begins_in, next_in}
use Rattle.mau_stratrun.specs.Courses.{state_in, IsCourse, IsListed, is_solution}

-- what is kept is right, and what is listed is a list that the run reaches
pub record IsRunning {C : Type 0} (w : World C) (forms : List Form) (bodies : List StrategyId) (i : Interned) (kept : List (Kept C)) (seen parents : List ℕ) (stack : List Open) : Type 0 where
  pub course : IsCourse w forms bodies i kept
  pub listed : IsListed (state_in w forms i) seen
  pub run : IsRun (begins_in (state_in w forms i)) (next_in (state_in w forms i)) seen parents stack

-- ---- what a run answers, where it began with the strategy d on t

-- the run began so
abbrev pub Began : State → List ℕ → Tree → Todo → Type 0
Began s seen t d = config_in s (slice_index seen 0) ≡ on t (d ∷ []) []

-- the term satisfies the strategy, for all limits from some on
abbrev pub IsSolutionOf : State → List ℕ → ℕ → Type 0
IsSolutionOf s seen n = (t : Tree) (d : Todo) → Began s seen t d →
    Eventually (engine_of s.setting.fixed.program) (λ L. Sat s.setting.fixed.program L s.setting.fixed.definitions d.calls d.values d.form t (s.setting.tree n))

-- no solution with this term is listed
abbrev pub IsNew : State → List ℕ → ℕ → Type 0
IsNew s seen n = Contains (map (config_in s) seen) (on (s.setting.tree n) [] []) → ⊥

-- d is the successor of c behind some others, for all limits from some on
abbrev pub IsSuccessorBy : Fixed → Config → Config → Type 0
IsSuccessorBy f c d = (given : List Config) × BeginsBy f c (given ++ d ∷ [])

-- each is a successor of the one before, from c on, and the last one is d
abbrev pub IsPathBy : Fixed → Config → List Config → Config → Type 0
IsPathBy f c [] d = c ≡ d
IsPathBy f c (x ∷ xs) d = IsSuccessorBy f c x × IsPathBy f x xs d

-- the way of a run to the solution with this term: from the start on, each was entered from the one before, so it is a successor of it
pub record IsPathTo (s : State) (seen parents way : List ℕ) (n : ℕ) : Type 0 where
  pub entered : IsWay seen parents 0 way
  pub configs : All (IsConfig s) way
  pub rest : List ℕ
  pub is : way ≡ slice_index seen 0 ∷ rest
  pub path : IsPathBy s.setting.fixed (config_in s (slice_index seen 0)) (map (config_in s) rest) (on (s.setting.tree n) [] [])

-- the way to the solution that was given, and none where none was given
abbrev pub PathIs : State → List ℕ → List ℕ → List ℕ → Result (Option TermId) LeafEnd → Type 0
PathIs s seen parents way (Ok (Some n)) = IsPathTo s seen parents way n.0
PathIs s seen parents way (Ok None) = way ≡ []
PathIs s seen parents way (Err e) = way ≡ []

-- of the solutions that are listed just the one that was given is new; none is where none was given
abbrev pub AddsJust : State → List ℕ → List ℕ → Result (Option TermId) LeafEnd → Type 0
AddsJust s old new (Ok (Some n)) = (u : Tree) → Contains (map (config_in s) new) (on u [] []) → Contains (map (config_in s) old) (on u [] []) ⊎ (u ≡ s.setting.tree n.0)
AddsJust s old new (Ok None) = (u : Tree) → Contains (map (config_in s) new) (on u [] []) → Contains (map (config_in s) old) (on u [] [])
AddsJust s old new (Err e) = (u : Tree) → Contains (map (config_in s) new) (on u [] []) → Contains (map (config_in s) old) (on u [] [])

-- none of these is a solution
abbrev pub NoneSolves : State → List ℕ → Type 0
NoneSolves s more = All (λ n. is_solution (config_in s n) ≡ false) more

-- How the list goes on: by entries that are no solutions, and then by the one with the term that was given. Where there is none, all successors of all entries are
-- listed.
abbrev pub GoesOn : State → List ℕ → List ℕ → Result (Option TermId) LeafEnd → Type 0
GoesOn s old new (Ok (Some n)) = (more : List ℕ) × (c : ℕ) × (new ≡ (old ++ more) ++ c ∷ []) × NoneSolves s more × (config_in s c ≡ on (s.setting.tree n.0) [] [])
GoesOn s old new (Ok None) = (more : List ℕ) × (new ≡ old ++ more) × NoneSolves s more × IsClosed (begins_in s) (next_in s) new
GoesOn s old new (Err e) = (more : List ℕ) × (new ≡ old ++ more) × NoneSolves s more

-- each term that satisfies it is the term of a solution that is listed, and it is not cut, for all limits from some on
abbrev pub IsWhole : State → List ℕ → Type 0
IsWhole s seen = (t : Tree) (d : Todo) → Began s seen t d → Eventually (engine_of s.setting.fixed.program) (λ L.
    ((u : Tree) → Sat s.setting.fixed.program L s.setting.fixed.definitions d.calls d.values d.form t u → Contains (map (config_in s) seen) (on u [] [])) ×
    (Cut s.setting.fixed.program L s.setting.fixed.definitions d.calls d.values d.form t → ⊥))

-- the run is at an entry whose next successor can't be had, for this cause
abbrev pub IsCaused : State → List ℕ → LeafEnd → Type 0
IsCaused s seen e = (j : ℕ) × (c : Config) × (given : List Config) × IsAsked (BeginsBy s.setting.fixed) (NextBy s.setting.fixed) (map (config_in s) seen) j c given × IsEnd s.setting.fixed c given e

-- there is a next entry, and as many are listed as the limit allows; or a successor can't be had
abbrev pub IsRunEnd : State → ℕ → List ℕ → LeafEnd → Type 0
IsRunEnd s limit seen Stopped =
    ((limit ≤ length seen) × ((c : Config) × IsNextEntry (BeginsBy s.setting.fixed) (NextBy s.setting.fixed) (map (config_in s) seen) c)) ⊎ IsCaused s seen Stopped
IsRunEnd s limit seen TooDeep = IsCaused s seen TooDeep
IsRunEnd s limit seen Overflow = IsCaused s seen Overflow
IsRunEnd s limit seen CallDepth = IsCaused s seen CallDepth
IsRunEnd s limit seen NoMemory = Unit {0}

-- the end of a run, by that of its walk
abbrev pub IsEndOf : WalkEnd LeafEnd → LeafEnd → Type 0
IsEndOf TooMany e = e ≡ Stopped
IsEndOf (Ended end) e = e ≡ end
IsEndOf NoRoom e = e ≡ NoMemory

-- the strategy with a number, with so many calls left, and no values of variables
abbrev pub begun_with : (ℕ → Strategy) → List Form → ℕ → ℕ → Todo
begun_with leaf forms n calls = record { form = strategy_at leaf forms n; calls = calls; values = [] }
