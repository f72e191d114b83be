use Rattle.std.proofs.Common.{◌≡◌, map, take}
use Rattle.mau_declare.specs.Forms.{form_of}
use Rattle.mau_declare.proofs.operators.read_forms.Given as goal

abbrev pub invariant-loop-form : goal.invariant-loop-form
invariant-loop-form l = l.read.items ≡ map (form_of l.words) (take l.form-index l.forms)
