use Rattle.std.proofs.Common.{◌≡◌, take}
use Rattle.mau_declare.specs.Forms.{form_of}
use Rattle.mau_declare.proofs.forms.read_form.Given as goal

abbrev pub invariant-loop-token : goal.invariant-loop-token
invariant-loop-token l = l.pieces.items ≡ form_of l.words (take l.token-index l.tokens)
