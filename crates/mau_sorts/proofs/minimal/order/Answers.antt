use Rattle.std.proofs.Common.{sym, subst}
use Rattle.std.specs.Prelude.{Contains}
use Rattle.std.specs.List.Sorted.{IsStrictlyIncreasing}
use Rattle.std.proofs.lemmas.List.Filters.{dedup_is}
use Rattle.std.proofs.lemmas.List.Kept.{Contains-dedup_nat, Contains-from_dedup}
use Rattle.std.proofs.lemmas.List.Sorted.{Contains-permutation, IsPermutation-sym}
use Rattle.std.proofs.lemmas.Map.Keys.{IsStrictlyIncreasing-dedup}
use Rattle.mau_sorts.proofs.minimal.order.Goals as goal

pub returns-clause-same : goal.returns-clause-same
returns-clause-same c m =
    let is = dedup_is _ _ _ c.dedup.ensures.filtered in
    let sorted = c.sort_unstable.ensures.permutation in (
      λ among. Contains-permutation _ _ m (IsPermutation-sym _ _ sorted) (Contains-from_dedup _ _ m (subst (λ xs. Contains xs m) is among)),
      λ among. subst (λ xs. Contains xs m) (sym is) (Contains-dedup_nat _ m (Contains-permutation _ _ m sorted among)),
    )

pub returns-clause-ascending : goal.returns-clause-ascending
returns-clause-ascending c =
    subst IsStrictlyIncreasing (sym (dedup_is _ _ _ c.dedup.ensures.filtered)) (IsStrictlyIncreasing-dedup _ c.sort_unstable.ensures.sorted)
