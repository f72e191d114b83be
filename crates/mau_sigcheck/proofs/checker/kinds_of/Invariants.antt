use Rattle.std.proofs.Common.{◌≡◌, map, take}
use Rattle.std.specs.Prelude.{All}
use Rattle.mau_poset.specs.Order.{kind_of}
use Rattle.mau_sigcheck.specs.Tuples.{IsKind}
use Rattle.mau_sigcheck.proofs.checker.kinds_of.Given as goal

abbrev pub invariant-loop-sort : goal.invariant-loop-sort
invariant-loop-sort l = (l.kinds.items ≡ map (kind_of l.poset) (take l.sort-index l.sorts)) × All (IsKind l.poset) l.kinds.items
