use Rattle.std.proofs.Common.{◌≡◌, take, min}
use Rattle.mau_module.specs.Framed.{included_statements}
use Rattle.mau_module.proofs.limits.included_statements.Given as goal

abbrev pub invariant-loop-part : goal.invariant-loop-part
invariant-loop-part l = l.count ≡ min (included_statements l.library (take l.part-index l.parts)) 18446744073709551615
