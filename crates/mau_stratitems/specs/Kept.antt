-- What is kept of a strategy run: where it stands, and when it can go on.
use Rattle.std.specs.Prelude.{ℕ, List, map, slice_index, Bool, Option}
use Rattle.mau_signature.specs.Signature.{SignatureOf}
use Rattle.mau_store.specs.Trees.{tree_at}
use Rattle.mau_sorts.specs.Table.{Table}
use Rattle.mau_listing.specs.Asked.{Asked}
use Rattle.mau_listing.specs.declared.solution.Solution as Listed
use Rattle.mau_program.specs.declared.program.Program as Typed
use Rattle.mau_program.specs.Trees.{StrategyOf}
use Rattle.mau_api.specs.Meanings.{Meanings}
use Rattle.mau_evaluation.specs.Configs.{Config}
use Rattle.mau_strat.specs.Configurations.{config_at}
use Rattle.mau_strat.specs.Forms.{strategy_at}
use Rattle.mau_stratrun.specs.Runs.{IsRunning}
use Rattle.mau_leaves.specs.Cursors.{leaf_at, IsReady, world_of}
use Rattle.mau_solutions.specs.Listings.{ReachedOf}
use Rattle.mau_solutions.specs.Standing.{first_of}
use Rattle.mau_store.specs.Node.{Node}
use Rattle.mau_stratitems.specs.declared.kept.RestingRun.{RestingRun}
use Rattle.mau_stratitems.specs.declared.kept.KeptRun.{KeptRun}

module _ {K : Type 0} (leaves : List StrategyOf) (k : RestingRun K) where
  -- the configuration with a number, over a table of leaves
  abbrev pub config_over : ℕ → Config
  config_over = config_at (tree_at k.store) (strategy_at (leaf_at leaves) k.run.course.forms) k.run.course.interner

  -- where the run stands, over a table of leaves
  abbrev pub reached_over : ReachedOf
  reached_over = record {
    start = (config_over (slice_index k.run.walk.listed 0)).term;
    strategy = first_of (config_over (slice_index k.run.walk.listed 0)).todo;
    seen = map config_over k.run.walk.listed;
  }

module _ {K : Type 0} where
  -- where a run that rests stands
  abbrev pub reached_at : RestingRun K → ReachedOf
  reached_at k = reached_over k.leaves k

  -- where a kept run stands
  abbrev pub reached_by : KeptRun K → ReachedOf
  reached_by k = reached_at k.rest.value

  -- its terms
  abbrev pub store_of : KeptRun K → List Node
  store_of k = k.rest.value.store

module _ {K : Type 0} (asked : K → Asked) (given : K → Option Listed.Solution) (is_for : K → SignatureOf → Type 0) (with_context : Bool) where
  -- it can go on by this program, these meanings, this table of leaves and this table of sorts
  pub record CanRunOver (p : Typed.Program) (m : Meanings) (leaves : List StrategyOf) (table : Table) (k : RestingRun K) : Type 0 where
    pub ready : IsReady with_context p m leaves k.run.limit k.store
    pub running : IsRunning (world_of asked given is_for with_context p m leaves k.store table) k.run.course.forms k.run.course.bodies.items
        k.run.course.interner k.run.course.kept.items k.run.walk.listed k.run.walk.trace.parents k.run.walk.stack.items

  -- it can go on by this program, these meanings and this table of sorts
  abbrev pub CanRunAt : Typed.Program → Meanings → Table → RestingRun K → Type 0
  CanRunAt p m table k = CanRunOver p m k.leaves table k

  -- so can a kept run
  abbrev pub CanRun : Typed.Program → Meanings → Table → KeptRun K → Type 0
  CanRun p m table k = CanRunAt p m table k.rest.value
