use Rattle.std.proofs.Common.{◌≡◌, ◌++◌, take}
use Rattle.mau_declare.specs.Forms.{form_text}
use Rattle.mau_declare.proofs.forms.write_form.Given as goal

abbrev pub invariant-loop-piece : goal.invariant-loop-piece
invariant-loop-piece l = l.out.items ≡ l.fn.out.items ++ form_text (take l.piece-index l.piece-items)
