use Rattle.std.proofs.Common.{◌≡◌, take}
use Rattle.mau_signature.specs.Keys.{pieces_of}
use Rattle.mau_signature.proofs.names.key_pieces.Given as goal

abbrev pub invariant-loop-piece : goal.invariant-loop-piece
invariant-loop-piece l = pieces_of l.pieces.items ≡ take l.piece-index l.piece-items
