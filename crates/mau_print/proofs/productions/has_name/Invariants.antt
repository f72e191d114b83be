use Rattle.std.proofs.Common.{◌≡◌, [], drop, is_some}
use Rattle.mau_grammar.specs.Parts.{name_from, prefix_name}
use Rattle.mau_print.proofs.productions.has_name.Given as goal

abbrev pub invariant-loop-piece : goal.invariant-loop-piece
invariant-loop-piece l = is_some (name_from [] l.after_word (drop l.piece-index l.pieces)) ≡ is_some (prefix_name l.form)
