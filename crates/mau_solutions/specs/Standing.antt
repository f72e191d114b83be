-- Where a run stands, and what it means to ask it for a solution.
use Rattle.std.specs.Prelude.{◌≡◌, ℕ, List, [], ◌∷◌, ◌++◌, map, slice_index, Result, Ok, Err}
use Rattle.mau_terms.specs.Tree.{Tree}
use Rattle.mau_terms.specs.declared.memory.NoMemory.{NoMemory}
use Rattle.mau_evaluation.specs.Run.{stopped, too_deep, overflowed}
use Rattle.mau_evaluation.specs.Strategy.{idle, StratDef}
use Rattle.mau_evaluation.specs.Configs.{Todo, Config}
use Rattle.mau_stratrun.specs.Settings.{Fixed}
use Rattle.mau_stratrun.specs.States.{State, config_in}
use Rattle.mau_api.specs.Meanings.{Meanings, program_of}
use Rattle.mau_results.specs.Results.{condition_levels}
use Rattle.mau_solutions.specs.declared.next.Next.{Next}
use Rattle.mau_solutions.specs.declared.next.Next.TheVariants.{Solution, NoMore, Stopped, TooDeep, Overflow, CallDepth}
use Rattle.mau_solutions.specs.Listings.{ReachedOf, outside, went_on, Passes, IsNextSolution, no_more, ends_by, call_depth, HasStrategyEnd}

-- what is to be done first; there is something
abbrev pub first_of : List Todo → Todo
first_of [] = outside idle
first_of (d ∷ ds) = d

-- what a run stands for that has listed these configurations, the first one at its start
abbrev pub reached_of : State → List ℕ → ReachedOf
reached_of s listed = record {
  start = (config_in s (slice_index listed 0)).term;
  strategy = first_of (config_in s (slice_index listed 0)).todo;
  seen = map (config_in s) listed;
}

-- a run of at most so many entries goes by these meanings and definitions: they are of its program, and its limits are those of an item
pub record GoesBy (m : Meanings) (defs : List StratDef) (f : Fixed) (most : ℕ) : Type 0 where
  pub program : f.program ≡ program_of m
  pub definitions : f.definitions ≡ defs
  pub levels : f.levels ≡ condition_levels
  pub budget : f.budget ≡ m.limit
  pub entries : most ≡ m.limit

module _ (m : Meanings) (defs : List StratDef) (old new : ReachedOf) where
  -- the run went on and listed no solution
  abbrev pub WentOn : (List Config → Type 0) → Type 0
  WentOn Ends = (more : List Config) × Passes m defs old more × (new ≡ went_on old more) × Ends (old.seen ++ more)

  -- what came of asking for a solution: the next one, or an end with its cause
  abbrev pub CameOf : (ℕ → Tree) → Next → Type 0
  CameOf tree (Solution id) = IsNextSolution m defs old (tree id.0) new
  CameOf tree NoMore = WentOn (λ seen. HasStrategyEnd m defs seen no_more)
  CameOf tree Stopped = WentOn (λ seen. HasStrategyEnd m defs seen (ends_by stopped))
  CameOf tree TooDeep = WentOn (λ seen. HasStrategyEnd m defs seen (ends_by too_deep))
  CameOf tree Overflow = WentOn (λ seen. HasStrategyEnd m defs seen (ends_by overflowed))
  CameOf tree CallDepth = WentOn (λ seen. HasStrategyEnd m defs seen call_depth)

  -- out of memory, it can go on from where it came to
  abbrev pub Came : (ℕ → Tree) → Result Next NoMemory → Type 0
  Came tree (Ok n) = CameOf tree n
  Came tree (Err e) = WentOn (λ seen. Unit {0})

-- a solution is given by the number of a term
abbrev pub IsOfTerm : (ℕ → Type 0) → Next → Type 0
IsOfTerm is_term (Solution id) = is_term id.0
IsOfTerm is_term _ = Unit {0}
