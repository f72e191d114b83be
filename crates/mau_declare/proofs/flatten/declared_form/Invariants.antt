use Rattle.std.proofs.Common.{◌≡◌, drop}
use Rattle.std.specs.Prelude.{slice_get}
use Rattle.mau_declare.specs.Flattened.{declared_forms}
use Rattle.mau_declare.proofs.flatten.declared_form.Given as goal

abbrev pub invariant-loop-ops : goal.invariant-loop-ops
invariant-loop-ops l = slice_get (declared_forms l.operators) l.number ≡ slice_get (declared_forms (drop l.ops-index l.operators)) l.rest
