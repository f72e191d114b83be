use Rattle.std.proofs.Common.{◌++◌}
use Rattle.mau_declare.specs.Forms.{pieces_of}
use Rattle.mau_declare.proofs.Cutting.{IsCut}
use Rattle.mau_declare.proofs.forms.push_pieces.Given as goal

abbrev pub invariant-loop-i : goal.invariant-loop-i
invariant-loop-i l = IsCut l.text (l.fn.out.items ++ pieces_of l.text) l.out.items l.is_quoted l.begin l.i
