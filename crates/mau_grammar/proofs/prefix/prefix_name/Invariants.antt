use Rattle.std.proofs.Common.{◌≡◌, drop, string_bytes}
use Rattle.mau_grammar.specs.Parts.{name_from, prefix_name}
use Rattle.mau_grammar.proofs.prefix.prefix_name.Given as goal

abbrev pub invariant-loop-piece : goal.invariant-loop-piece
invariant-loop-piece l = name_from (string_bytes l.name) l.after_word (drop l.piece-index l.pieces) ≡ prefix_name l.form
