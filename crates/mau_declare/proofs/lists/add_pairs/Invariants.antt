use Rattle.std.proofs.Common.{◌≡◌, ◌++◌, map, take}
use Rattle.mau_declare.proofs.lists.add_pairs.Given as goal

abbrev pub invariant-loop-lower : goal.invariant-loop-lower
invariant-loop-lower l = l.pairs.items ≡ l.fn.pairs.items ++ map (λ b. (b, l.sort)) (take l.lower-index l.below)
