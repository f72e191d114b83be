use Rattle.std.proofs.Common.{take}
use Rattle.mau_parse.specs.Charted.{ArePiecesOf}
use Rattle.mau_parse.proofs.forms.form_of.Given as goal

abbrev pub invariant-loop-part : goal.invariant-loop-part
invariant-loop-part l = ArePiecesOf l.words (take l.part-index l.parts) l.pieces.items
