use Rattle.mau_sorts.specs.HasSort.{HasSort}
use Rattle.mau_sorts.proofs.Kept.{shown_least}
use Rattle.mau_sorts.proofs.laws.least_is_shown.Goals as goal

pub returns : goal.returns
returns c s poset known t e kept r least = shown_least s.hierarchy poset (HasSort s known t) e kept r least
