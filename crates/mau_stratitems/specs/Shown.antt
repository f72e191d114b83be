-- What comes of asking a kept run for a solution.
use Rattle.std.specs.Prelude.{◌≡◌, ℕ, List, ◌++◌, map}
use Rattle.mau_store.specs.Node.{Node}
use Rattle.mau_store.specs.Trees.{tree_at}
use Rattle.mau_program.specs.declared.program.Program as Typed
use Rattle.mau_api.specs.Terms.{IsTerm}
use Rattle.mau_api.specs.Meanings.{Meanings}
use Rattle.mau_evaluation.specs.Run.{stopped, too_deep, overflowed}
use Rattle.mau_evaluation.specs.Strategy.{StratDef}
use Rattle.mau_evaluation.specs.Configs.{Config}
use Rattle.mau_stratforms.specs.Meanings.{definition_of}
use Rattle.mau_results.specs.Results.{HasShownSort}
use Rattle.mau_solutions.specs.Listings.{ReachedOf, went_on, Passes, IsNextSolution, StrategyEnd, no_more, ends_by, call_depth, HasStrategyEnd}
use Rattle.mau_stratitems.specs.declared.next.NextShown.{NextShown}
use Rattle.mau_stratitems.specs.declared.next.NextShown.TheVariants.{Solution, NoMore, Stopped, TooDeep, Overflow, CallDepth}

-- the definitions of a program, as evaluation sees them
abbrev pub definitions_of : Typed.Program → List StratDef
definitions_of p = map definition_of p.strategies

module _ (p : Typed.Program) (m : Meanings) (old new : ReachedOf) (nodes : List Node) where
  -- the next solution is the term with this number, and this sort is shown for it; the run stands at it
  pub record GivesSolution (id sort : ℕ) : Type 0 where
    pub solution : IsNextSolution m (definitions_of p) old (tree_at nodes id) new
    pub shown : HasShownSort m (tree_at nodes id) sort
    pub term : IsTerm p.sig nodes id

  -- the run went on to entries that are no solutions, and behind them there is no further one for this cause
  pub record GivesEnd (e : StrategyEnd) : Type 0 where
    pub passed : List Config
    pub passes : Passes m (definitions_of p) old passed
    pub stands : new ≡ went_on old passed
    pub cause : HasStrategyEnd m (definitions_of p) (old.seen ++ passed) e

  -- what comes of asking
  abbrev pub ComesTo : NextShown → Type 0
  ComesTo (Solution id sort) = GivesSolution id.0 sort
  ComesTo NoMore = GivesEnd no_more
  ComesTo Stopped = GivesEnd (ends_by stopped)
  ComesTo TooDeep = GivesEnd (ends_by too_deep)
  ComesTo Overflow = GivesEnd (ends_by overflowed)
  ComesTo CallDepth = GivesEnd call_depth
