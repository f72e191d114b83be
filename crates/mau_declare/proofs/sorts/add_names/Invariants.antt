use Rattle.std.proofs.Common.{◌≡◌, take}
use Rattle.mau_declare.specs.Sorts.{with_names}
use Rattle.mau_declare.proofs.sorts.add_names.Given as goal

abbrev pub invariant-loop-sort : goal.invariant-loop-sort
invariant-loop-sort l = l.names ≡ with_names l.words l.fn.names (take l.sort-index l.sorts)
