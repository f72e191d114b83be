use Rattle.std.proofs.Common.{◌≡◌, take}
use Rattle.mau_declare.specs.Sorts.{declared_sorts}
use Rattle.mau_declare.proofs.sorts.add_declared_sorts.Given as goal

abbrev pub invariant-loop-element : goal.invariant-loop-element
invariant-loop-element l = l.names ≡ declared_sorts l.words l.fn.names (take l.element-index l.elements)
