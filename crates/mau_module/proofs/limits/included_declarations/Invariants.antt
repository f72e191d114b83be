use Rattle.std.proofs.Common.{◌≡◌, take, min}
use Rattle.mau_module.specs.Framed.{included_declarations}
use Rattle.mau_module.proofs.limits.included_declarations.Given as goal

abbrev pub invariant-loop-part : goal.invariant-loop-part
invariant-loop-part l = l.count ≡ min (included_declarations l.library (take l.part-index l.parts)) 18446744073709551615
