-- What comes of asking, with the sort that is shown for a solution.
use Rattle.std.proofs.Common.{◌≡◌, ℕ, List, Some, sym, subst}
use Rattle.std.specs.Option.{option_map}
use Rattle.mau_poset.specs.Order.{IsPoset}
use Rattle.mau_store.specs.Node.{Node}
use Rattle.mau_store.specs.Trees.{tree_at}
use Rattle.mau_sorts.specs.SortSets.{shown_sort}
use Rattle.mau_sorts.specs.Table.{Table, entry_at}
use Rattle.mau_program.specs.declared.program.Program as Typed
use Rattle.mau_api.specs.Meanings.{Meanings}
use Rattle.mau_api.specs.Terms.{IsTerm}
use Rattle.mau_api.specs.Answers.{IsDerivedTable}
use Rattle.mau_results.specs.Results.{HasShownSort}
use Rattle.mau_results.proofs.ShownSorts.{shown_settled}
use Rattle.mau_solutions.specs.Listings.{ReachedOf, StrategyEnd, HasStrategyEnd}
use Rattle.mau_solutions.specs.Standing.{WentOn}
use Rattle.mau_stratitems.specs.Shown.{definitions_of, GivesEnd}

-- the sort that is found is shown
pub sort_shown : (p : Typed.Program) (m m' : Meanings) → m' ≡ m → m'.program ≡ p → (nodes : List Node) (table : Table) → IsDerivedTable m' nodes table → IsPoset p.sig.hierarchy →
    (i : ℕ) → IsTerm p.sig nodes i → (s : ℕ) → Some s ≡ option_map shown_sort (entry_at table i) → HasShownSort m (tree_at nodes i) s
sort_shown p m m' same e nodes table derived poset i term s found =
    subst (λ (n : Meanings). HasShownSort n (tree_at nodes i) s) same
    (shown_settled m' nodes table i (subst (λ (q : Typed.Program). IsPoset q.sig.hierarchy) (sym e) poset) derived (subst (λ (q : Typed.Program). IsTerm q.sig nodes i) (sym e) term) s found)

-- an end with its cause
pub end_given : (p : Typed.Program) (m : Meanings) (old new : ReachedOf) (nodes : List Node) (e : StrategyEnd) →
    WentOn m (definitions_of p) old new (λ seen. HasStrategyEnd m (definitions_of p) seen e) → GivesEnd p m old new nodes e
end_given p m old new nodes e w = record { passed = w.0; passes = w.1; stands = w.2; cause = w.3 }
