use Rattle.std.proofs.Common.{◌≡◌, take}
use Rattle.mau_module.specs.Included.{sorts_of}
use Rattle.mau_module.proofs.include.sorts_of.Given as goal

abbrev pub invariant-loop-part : goal.invariant-loop-part
invariant-loop-part l = l.names ≡ sorts_of l.library (take l.part-index l.parts)
