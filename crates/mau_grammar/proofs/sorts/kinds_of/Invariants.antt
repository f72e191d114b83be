use Rattle.std.proofs.Common.{◌≡◌, ◌++◌, map, drop}
use Rattle.mau_poset.specs.Order.{kind_of}
use Rattle.mau_grammar.proofs.sorts.kinds_of.Given as goal

abbrev pub invariant-loop-sort : goal.invariant-loop-sort
invariant-loop-sort l = l.kinds.items ++ map (kind_of l.poset) (drop l.sort-index l.sorts) ≡ map (kind_of l.poset) l.sorts
