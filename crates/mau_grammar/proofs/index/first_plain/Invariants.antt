use Rattle.std.proofs.Common.{◌≡◌, drop}
use Rattle.mau_grammar.specs.Index.{first_plain}
use Rattle.mau_grammar.proofs.index.first_plain.Given as goal

abbrev pub invariant-loop-part : goal.invariant-loop-part
invariant-loop-part l = first_plain (drop l.part-index l.parts) ≡ first_plain l.parts
