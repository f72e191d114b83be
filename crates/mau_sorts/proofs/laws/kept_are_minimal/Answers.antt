use Rattle.mau_sorts.specs.HasSort.{HasSort}
use Rattle.mau_sorts.proofs.Kept.{kept_minimal}
use Rattle.mau_sorts.proofs.laws.kept_are_minimal.Goals as goal

pub returns : goal.returns
returns c s poset known t e kept m = kept_minimal s.hierarchy poset (HasSort s known t) e kept m
