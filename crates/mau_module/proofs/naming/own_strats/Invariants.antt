use Rattle.std.proofs.Common.{◌≡◌, take}
use Rattle.mau_module.specs.Named.{own_strats}
use Rattle.mau_module.proofs.naming.own_strats.Given as goal

abbrev pub invariant-loop-element : goal.invariant-loop-element
invariant-loop-element l = l.strats.items ≡ own_strats l.words l.sorts (take l.element-index l.elements)
