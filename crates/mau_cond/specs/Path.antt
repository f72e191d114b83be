-- Where a run is in its condition.
use Rattle.std.specs.Prelude.{◌≡◌, ◌≤◌, ◌⊎◌, ℕ, List, [], ◌∷◌, ◌++◌, length, slice_get, All, Option, Some, None}
use Rattle.mau_terms.specs.declared.ids.VarId.{VarId}
use Rattle.mau_terms.specs.declared.ids.TermId.{TermId}
use Rattle.mau_terms.specs.declared.bare.Bare.{Bare}
use Rattle.mau_program.specs.declared.statements.Fragment.{Fragment}
use Rattle.mau_program.specs.declared.statements.Fragment.TheVariants as Part
use Rattle.mau_cond.specs.declared.stage.Station.{Station}
use Rattle.mau_cond.specs.declared.stage.Stage.{Stage}
use Rattle.mau_cond.specs.declared.stage.Stage.TheVariants.{Open, First, Both, Due, Failed}
use Rattle.mau_cond.specs.declared.stage.Ask.{Ask}
use Rattle.mau_cond.specs.declared.stage.Ask.TheVariants.{Evaluate, Match, Holds, Fails}

-- what was told and not gone back on
pub record Path : Type 0 where
  -- the condition
  pub cond : List Fragment
  -- the variables that have values, in the order in which they got them
  pub bound : List (VarId × TermId)
  -- the matching fragments before the first undecided one, from left to right
  pub stations : List Station
  -- the place of the first undecided fragment, and what was told of it
  pub at : ℕ
  pub stage : Stage

-- the matching fragment whose next solution is due
abbrev pub due_at : Stage → List Station
due_at (Due s) = s ∷ []
due_at Open = []
due_at (First v) = []
due_at (Both v w) = []
due_at Failed = []

-- all matching fragments whose values were told, from left to right
abbrev pub all_stations : Path → List Station
all_stations p = p.stations ++ due_at p.stage

-- ---- what holds of every path

-- a matching fragment is at this place
abbrev pub IsMatching : Option Fragment → Type 0
IsMatching None = ⊥
IsMatching (Some (Part.Equal t u)) = ⊥
IsMatching (Some (Part.Match q u)) = Unit {0}
IsMatching (Some (Part.Sort t s)) = ⊥
IsMatching (Some (Part.Reach t u)) = ⊥

-- what was bound before one is bound before each behind it; the numbers are how many variables were bound, from `low` to `high`
abbrev pub AreNested : ℕ → List Station → ℕ → Type 0
AreNested low [] high = low ≤ high
AreNested low (s ∷ ss) high = (low ≤ s.bound) × AreNested s.bound ss high

-- values are told of the terms that a fragment has
abbrev pub IsToldOf : Stage → Option Fragment → Type 0
IsToldOf (First v) (Some (Part.Equal t u)) = Unit {0}
IsToldOf (First v) (Some (Part.Sort t s)) = Unit {0}
IsToldOf (First v) f = ⊥
IsToldOf (Both v w) (Some (Part.Equal t u)) = Unit {0}
IsToldOf (Both v w) f = ⊥
IsToldOf k f = Unit {0}

pub record IsPath (p : Path) : Type 0 where
  -- the places of fragments are numbers of 32 bits
  pub few : length p.cond ≤ 4294967295
  pub matching : All (λ (s : Station). IsMatching (slice_get p.cond s.at)) (all_stations p)
  pub nested : AreNested 0 (all_stations p) (length p.bound)
  -- what was bound behind the one that is due is gone
  pub due : (s : Station) → p.stage ≡ Due s → s.bound ≡ length p.bound
  pub told : IsToldOf p.stage (slice_get p.cond p.at)
  pub over : p.stage ≡ Failed → p.stations ≡ []

-- ---- what is asked

-- the term that is to be evaluated next of a fragment
abbrev pub term_by : Stage → Option Fragment → Option Bare
term_by Open (Some (Part.Equal t u)) = Some t
term_by Open (Some (Part.Match q u)) = Some u
term_by Open (Some (Part.Sort t s)) = Some t
term_by (First v) (Some (Part.Equal t u)) = Some u
term_by k f = None

-- the term whose value the path lacks
abbrev pub term_due : Path → Option Bare
term_due p = term_by p.stage (slice_get p.cond p.at)

-- its value was asked
abbrev pub AwaitsValue : Path → Type 0
AwaitsValue p = (t : Bare) × (term_due p ≡ Some t)

-- the next solution of the fragment i was asked, in v
abbrev pub AwaitsSolution : Path → ℕ → TermId → Type 0
AwaitsSolution p i v = (s : Station) × (p.stage ≡ Due s) × (s.at ≡ i) × (s.value ≡ v)

-- no matching fragment is left to go back to
abbrev pub IsOver : Path → Type 0
IsOver p = p.stage ≡ Failed

-- the path is one that this was answered for. After `Holds` it has gone back
abbrev pub IsAnswer : Path → Ask → Type 0
IsAnswer p (Evaluate t) = AwaitsValue p
IsAnswer p (Match i v) = AwaitsSolution p i v × IsMatching (slice_get p.cond i)
IsAnswer p (Holds values) = ((i : ℕ) × (v : TermId) × AwaitsSolution p i v) ⊎ IsOver p
IsAnswer p Fails = IsOver p

-- what is told next is not told yet
abbrev pub IsAsked : Path → Type 0
IsAsked p = AwaitsValue p ⊎ (((i : ℕ) × (v : TermId) × AwaitsSolution p i v) ⊎ IsOver p)

abbrev pub IsNoSolution : Ask → Type 0
IsNoSolution (Evaluate t) = Unit {0}
IsNoSolution (Match i v) = Unit {0}
IsNoSolution (Holds values) = ⊥
IsNoSolution Fails = Unit {0}

-- ---- what is told

-- what was told of the fragment at i, where n variables are bound, once v was told
abbrev pub stage_with : ℕ → ℕ → TermId → Stage → Option Fragment → Stage
stage_with i n v Open (Some (Part.Match q u)) = Due (record { at = i; value = v; bound = n })
stage_with i n v (First u) f = Both u v
stage_with i n v k f = First v

-- the path once the value was told that was asked
abbrev pub with_value : Path → TermId → Path
with_value p v = record {
  cond = p.cond;
  bound = p.bound;
  stations = p.stations;
  at = p.at;
  stage = stage_with p.at (length p.bound) v p.stage (slice_get p.cond p.at);
}
