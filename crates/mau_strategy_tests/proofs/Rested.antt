-- Evaluators by the definitions without native operators, and runs that rest in between.
use Rattle.std.proofs.Common.{◌≡◌, ℕ, List, [], true, false, refl, sym, ap, ◌∙◌, subst}
use Rattle.mau_formula.specs.Operator.{Operator}
use Rattle.mau_store.specs.Node.{Node}
use Rattle.mau_sorts.specs.Table.{Table}
use Rattle.mau_match.specs.declared.listing.Listing.{Listing}
use Rattle.mau_extend.specs.declared.listing.ExtListing.{ExtListing}
use Rattle.mau_program.specs.declared.program.Program.{Program}
use Rattle.mau_api.specs.Meanings.{Meanings, meanings_by}
use Rattle.mau_reducer.specs.KeptTables.{IsKept}
use Rattle.mau_rules.specs.Runnable.{GoesBy}
use Rattle.mau_stratitems.specs.Kept.{store_of, CanRun}
use Rattle.mau_stratitems.specs.declared.kept.KeptRun.{KeptRun}
use Rattle.mau_strategy_tests.specs.Rests.{meant, asked_there, given_there, IsForAny, CanGoOn}

pub meant_by : (p : Program) (m : Meanings) (hooks : List Operator) (limit : ℕ) → m ≡ meanings_by p hooks limit false → hooks ≡ [] → m ≡ meant p limit
meant_by p m hooks limit e none = e ∙ ap (λ h. meanings_by p h limit false) none

module _ (p : Program) (m : Meanings) (limit : ℕ) (same : m ≡ meant p limit) where
  pub goes_by : GoesBy p m
  goes_by = subst (GoesBy p) (sym same) (record { program = refl; defined = refl })

  pub limit_is : limit ≡ m.limit
  limit_is = sym (ap (λ (z : Meanings). z.limit) same)

  pub goes_on_kept : (k : KeptRun (ExtListing Listing)) (table sorts : Table) → sorts ≡ table → CanRun asked_there given_there IsForAny true p m table k
      → IsKept m.program m.hooks m.limit (store_of k) sorts → CanGoOn p limit k sorts
  goes_on_kept k table sorts at run kept = record {
    run = subst (λ (t : Table). CanRun asked_there given_there IsForAny true p (meant p limit) t k) (sym at)
        (subst (λ (z : Meanings). CanRun asked_there given_there IsForAny true p z table k) same run);
    kept = subst (λ (z : Meanings). IsKept z.program z.hooks z.limit (store_of k) sorts) same kept;
  }

  pub runs_kept : (k : KeptRun (ExtListing Listing)) (table sorts : Table) → table ≡ sorts → CanGoOn p limit k sorts → CanRun asked_there given_there IsForAny true p m table k
  runs_kept k table sorts at can =
      subst (λ (t : Table). CanRun asked_there given_there IsForAny true p m t k) (sym at)
      (subst (λ (z : Meanings). CanRun asked_there given_there IsForAny true p z sorts k) (sym same) can.run)

pub kept_for : (p : Program) (hooks : List Operator) (limit : ℕ) (nodes : List Node) (sorts : Table) → hooks ≡ [] → IsKept p [] limit nodes sorts → IsKept p hooks limit nodes sorts
kept_for p hooks limit nodes sorts none kept = subst (λ (h : List Operator). IsKept p h limit nodes sorts) (sym none) kept
