use Rattle.std.proofs.Common.{◌≡◌, ◌++◌, [], drop, false, string_bytes}
use Rattle.mau_print.specs.Written.{spaced, pieces}
use Rattle.mau_print.proofs.printing.write_words.Given as goal

abbrev pub invariant-loop-part : goal.invariant-loop-part
invariant-loop-part l = string_bytes l.out ++ spaced false (pieces (drop l.part-index l.parts) []) ≡ string_bytes l.initial.out ++ spaced false (pieces l.parts [])
