use Rattle.std.proofs.Common.{◌≡◌, ◌+◌, drop}
use Rattle.mau_parse.specs.Charted.{word_number}
use Rattle.mau_parse.proofs.forms.word_number.Given as goal

abbrev pub invariant-loop-i : goal.invariant-loop-i
invariant-loop-i l = l.i + word_number (drop l.i l.words) l.word ≡ word_number l.words l.word
