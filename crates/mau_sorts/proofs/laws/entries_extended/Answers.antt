use Rattle.std.proofs.Common.{sym, subst}
use Rattle.mau_store.proofs.Growth.{extension_keeps_terms}
use Rattle.mau_sorts.specs.SortSets.{IsKeptOf}
use Rattle.mau_sorts.specs.HasSort.{HasSort}
use Rattle.mau_sorts.proofs.laws.entries_extended.Goals as goal

pub returns : goal.returns
returns c s known old new more t entries i e at_i =
    let here = entries i e at_i in
    let keeps = extension_keeps_terms old new more i here.0 in
    (keeps.number, subst (λ u. IsKeptOf s.hierarchy (HasSort s known u) e) (sym keeps.tree) here.1)
