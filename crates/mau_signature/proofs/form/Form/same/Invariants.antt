use Rattle.std.proofs.Common.{◌≡◌, drop}
use Rattle.mau_signature.specs.Form.{same_form}
use Rattle.mau_signature.proofs.form.Form.same.Given as goal

abbrev pub invariant-loop-i : goal.invariant-loop-i
invariant-loop-i l = same_form l.self-inside.pieces.items l.other-inside.pieces.items ≡ same_form (drop l.i l.self-inside.pieces.items) (drop l.i l.other-inside.pieces.items)
