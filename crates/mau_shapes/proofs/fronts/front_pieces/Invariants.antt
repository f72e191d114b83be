use Rattle.mau_shapes.specs.Reading.{words_of}
use Rattle.mau_shapes.proofs.Leading.{Led}
use Rattle.mau_shapes.proofs.Found.{Runs}
use Rattle.mau_shapes.proofs.fronts.front_pieces.Given as goal

abbrev pub invariant-loop-place : goal.invariant-loop-place
invariant-loop-place l = record {
  led : Led (words_of l.text l.tokens) l.place l.reader;
  runs : Runs (words_of l.text l.tokens) l.place l.reader;
}
