-- What the code keeps of a strategy run, and what it shows.
use Rattle.std.specs.Prelude.{◌≡◌, ℕ, ◌+◌, ◌++◌, List, length, Bool, true, Option, None, Some, Result, Ok, Err}
use Rattle.mau_terms.specs.Tree.{Tree}
use Rattle.mau_terms.specs.declared.ids.TermId.{TermId}
use Rattle.mau_signature.specs.Signature.{SignatureOf}
use Rattle.mau_store.specs.Node.{Node}
use Rattle.mau_sorts.specs.Table.{Table}
use Rattle.mau_listing.specs.Asked.{Asked}
use Rattle.mau_listing.specs.declared.solution.Solution.{Solution as Listed}
use Rattle.mau_trial.specs.Tried.{asked_in}
use Rattle.mau_match.specs.declared.listing.Listing.{Listing}
use Rattle.mau_extend.specs.declared.listing.ExtListing.{ExtListing}
use Rattle.mau_program.specs.declared.program.Program.{Program}
use Rattle.mau_evaluation.specs.Run.{stopped, too_deep, overflowed}
use Rattle.mau_evaluation.specs.Configs.{Config}
use Rattle.mau_api.specs.Meanings.{Meanings}
use Rattle.mau_reducer.specs.KeptTables.{IsKept}
use Rattle.mau_results.specs.Results.{HasShownSort}
use Rattle.mau_solutions.specs.Listings.{ReachedOf, went_on, Passes, IsNextSolution, StrategyEnd, no_more, bound_reached, ends_by, call_depth, HasStrategyEnd, ListsSolutions}
use Rattle.mau_stratitems.specs.Kept.{reached_by, CanRun}
use Rattle.mau_stratitems.specs.Shown.{GivesSolution, GivesEnd}
use Rattle.mau_stratitems.specs.declared.kept.KeptRun.{KeptRun}
use Rattle.mau_module.specs.Modules.{ModuleOf}
use Rattle.mau_module.specs.Lawful.{program_of}
use Rattle.mau_session.specs.Terms.{Pairs}
use Rattle.mau_session.specs.Environment.{Environment, meanings_in}
use Rattle.mau_session.specs.StrategyRun.{StrategyRunOf, definitions_of}
use Rattle.mau_session.specs.StrategyLines.{solution_lines, all_solutions, strategy_lines}
use Rattle.mau_session.specs.declared.searching.Searching.{Searching}
use Rattle.mau_session.specs.declared.searching.SearchEnd.{SearchEnd}
use Rattle.mau_session.specs.declared.searching.SearchEnd.TheVariants.{NoMore, BoundReached, Stopped, TooDeep, Overflow, CallDepth}

-- ---- what is kept

-- a run of which so many solutions were shown, for a command with these variables
abbrev pub run_of : {K : Type 0} → KeptRun K → ℕ → Pairs → StrategyRunOf
run_of k shown ns = record { reached = reached_by k; shown = shown; variables = ns }

abbrev pub search_of : Searching → StrategyRunOf
search_of s = run_of s.run s.shown s.vars

-- what the listings are asked with which rules are tried, what they have given, and that any signature will do for them
abbrev pub asked_there : ExtListing Listing → Asked
asked_there l = asked_in l.trial

abbrev pub given_there : ExtListing Listing → Option Listed
given_there l = l.trial.last

abbrev pub IsForAny : ExtListing Listing → SignatureOf → Type 0
IsForAny l s = Unit {0}

-- a run can go on over the module m, by the sorts that an evaluator had settled in this environment
pub record CanGoOn (e : Environment) (m : ModuleOf) (k : KeptRun (ExtListing Listing)) (sorts : Table) : Type 0 where
  pub run : CanRun asked_there given_there IsForAny true (program_of m) (meanings_in e m) sorts k
  pub kept : IsKept (program_of m) e.operators e.budget k.rest.value.store sorts

abbrev pub IsReadySearch : Environment → ModuleOf → Searching → Type 0
IsReadySearch e m s = CanGoOn e m s.run s.sorts

-- ---- how a listing ends

abbrev pub ending_of : SearchEnd → StrategyEnd
ending_of NoMore = no_more
ending_of BoundReached = bound_reached
ending_of Stopped = ends_by stopped
ending_of TooDeep = ends_by too_deep
ending_of Overflow = ends_by overflowed
ending_of CallDepth = call_depth

-- what comes of asking a run: a solution, or an end
abbrev pub CameTo : Program → Meanings → ReachedOf → ReachedOf → List Node → Result (TermId × ℕ) SearchEnd → Type 0
CameTo p m old new nodes (Ok x) = GivesSolution p m old new nodes x.0.0 x.1
CameTo p m old new nodes (Err e) = GivesEnd p m old new nodes (ending_of e)

-- ---- one solution more

module _ (m : ModuleOf) (e : Meanings) (ns : Pairs) (before : ℕ) (old new : ReachedOf) (out bytes : List ℕ) (after : ℕ) where
  -- the next solution is shown
  pub record ShowsOneSolution : Type 0 where
    pub term : Tree
    pub sort : ℕ
    pub solution : IsNextSolution e (definitions_of m) old term new
    pub shown : HasShownSort e term sort
    pub count : after ≡ before + 1
    pub gained : bytes ≡ out ++ solution_lines m ns after (term, sort)

  -- none is shown, for this cause
  pub record ShowsNoSolution (end : StrategyEnd) : Type 0 where
    pub passed : List Config
    pub passes : Passes e (definitions_of m) old passed
    pub stands : new ≡ went_on old passed
    pub cause : HasStrategyEnd e (definitions_of m) (old.seen ++ passed) end
    pub count : after ≡ before
    pub gained : bytes ≡ out

  abbrev pub ShowsNextSolution : Option SearchEnd → Type 0
  ShowsNextSolution None = ShowsOneSolution
  ShowsNextSolution (Some x) = ShowsNoSolution (ending_of x)

-- ---- all of them

-- the solutions that a run lists from where it stands, up to `last`, and the bytes gained, which are their lines; so many are shown in all then
pub record GainsFound (m : ModuleOf) (e : Meanings) (r : StrategyRunOf) (most : Option ℕ) (old new : List ℕ) (last : ReachedOf) (shown : ℕ) (end : StrategyEnd) : Type 0 where
  pub found : List (Tree × ℕ)
  pub lists : ListsSolutions e (definitions_of m) r.reached most found last end
  pub count : shown ≡ r.shown + length found
  pub gained : new ≡ old ++ all_solutions m r.variables (r.shown + 1) found

-- the same with the last line
pub record GainsEnded (m : ModuleOf) (e : Meanings) (r : StrategyRunOf) (most : Option ℕ) (old new : List ℕ) (last : ReachedOf) (shown : ℕ) (end : StrategyEnd) : Type 0 where
  pub found : List (Tree × ℕ)
  pub lists : ListsSolutions e (definitions_of m) r.reached most found last end
  pub count : shown ≡ r.shown + length found
  pub gained : new ≡ old ++ strategy_lines m e.limit r found end
