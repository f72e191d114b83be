use Rattle.std.proofs.Common.{◌≡◌, length}
use Rattle.mau_shapes.specs.Machine.{closed}
use Rattle.mau_shapes.proofs.reader.close.Given as goal

abbrev pub invariant-loop-piece : goal.invariant-loop-piece
invariant-loop-piece l = closed l.level l.initial.frames l.initial.pieces ≡ closed l.level l.frames l.pieces

abbrev pub decreases-loop-piece : goal.decreases-loop-piece
decreases-loop-piece l = length l.frames
