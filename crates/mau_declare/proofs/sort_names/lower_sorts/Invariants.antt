use Rattle.std.proofs.Common.{take}
use Rattle.mau_declare.specs.Flattened.{AreLower}
use Rattle.mau_declare.proofs.sort_names.lower_sorts.Given as goal

abbrev pub invariant-loop-pair : goal.invariant-loop-pair
invariant-loop-pair l = AreLower l.n (take l.pair-index l.pairs) l.lower.items
