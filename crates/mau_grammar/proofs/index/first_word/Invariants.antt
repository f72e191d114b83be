use Rattle.std.proofs.Common.{◌≡◌, drop}
use Rattle.mau_grammar.specs.Index.{first_word}
use Rattle.mau_grammar.proofs.index.first_word.Given as goal

abbrev pub invariant-loop-part : goal.invariant-loop-part
invariant-loop-part l = first_word (drop l.part-index l.parts) ≡ first_word l.parts
