use Rattle.std.proofs.Common.{◌≡◌, ◌≤◌, ◌++◌, drop}
use Rattle.mau_grammar.specs.Parts.{parts_from, parts_in_order}
use Rattle.mau_grammar.proofs.parts.parts_in_order.Given as goal

abbrev pub invariant-loop-piece : goal.invariant-loop-piece
invariant-loop-piece l = (l.parts.items ++ parts_from l.decl l.kinds (drop l.piece-index l.pieces) l.hole ≡ parts_in_order l.decl l.kinds) × (l.hole ≤ l.piece-index)
