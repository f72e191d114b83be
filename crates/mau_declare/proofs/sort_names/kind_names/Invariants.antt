use Rattle.std.proofs.Common.{◌≡◌, map}
use Rattle.std.specs.List.{range_with_len}
use Rattle.mau_declare.specs.Flattened.{kind_name}
use Rattle.mau_declare.proofs.sort_names.kind_names.Given as goal

abbrev pub invariant-loop-i : goal.invariant-loop-i
invariant-loop-i l = l.names.items ≡ map (kind_name l.sorts l.poset) (range_with_len l.poset.sorts l.i)
