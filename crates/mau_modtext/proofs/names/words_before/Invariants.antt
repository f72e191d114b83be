use Rattle.std.proofs.Common.{◌≡◌, ◌+◌, drop}
use Rattle.mau_modtext.specs.Names.{words_before as before}
use Rattle.mau_modtext.proofs.names.words_before.Given as goal

abbrev pub invariant-loop-i : goal.invariant-loop-i
invariant-loop-i l = before l.end l.words ≡ l.i + before l.end (drop l.i l.words)
