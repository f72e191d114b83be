use Rattle.std.proofs.Common.{drop}
use Rattle.mau_parse.specs.Charted.{AreThere}
use Rattle.mau_parse.proofs.forms.are_there.Given as goal

abbrev pub invariant-loop-part : goal.invariant-loop-part
invariant-loop-part l = AreThere l.words l.parts → AreThere l.words (drop l.part-index l.parts)
