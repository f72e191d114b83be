use Rattle.std.proofs.Common.{◌≡◌, take}
use Rattle.mau_module.specs.Carried.{carried}
use Rattle.mau_module.proofs.tables.carried.Given as goal

abbrev pub invariant-loop-part : goal.invariant-loop-part
invariant-loop-part l = l.statements ≡ carried l.library l.names l.signature (take l.part-index l.parts)
