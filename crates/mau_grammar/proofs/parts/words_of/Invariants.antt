use Rattle.std.proofs.Common.{◌≡◌, ◌++◌, drop}
use Rattle.mau_grammar.specs.Parts.{words_of}
use Rattle.mau_grammar.proofs.parts.words_of.Given as goal

abbrev pub invariant-loop-piece : goal.invariant-loop-piece
invariant-loop-piece l = l.parts.items ++ words_of (drop l.piece-index l.pieces) ≡ words_of l.form
