use Rattle.std.proofs.Common.{◌≡◌, ◌++◌, take}
use Rattle.mau_module.specs.Named.{own_labels}
use Rattle.mau_module.proofs.naming.add_own_labels.Given as goal

abbrev pub invariant-loop-element : goal.invariant-loop-element
invariant-loop-element l = l.labels.items ≡ l.fn.labels.items ++ own_labels l.words (take l.element-index l.elements)
