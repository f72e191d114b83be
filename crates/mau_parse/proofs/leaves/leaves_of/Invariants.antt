use Rattle.std.proofs.Common.{◌≡◌, ◌<◌, length}
use Rattle.mau_grammar.specs.Leaves.{pairs_of}
use Rattle.mau_parse.proofs.LeavesListed.{leaves_to}
use Rattle.mau_parse.proofs.leaves.leaves_of.Given as goal

abbrev pub invariant-loop-i : goal.invariant-loop-i
invariant-loop-i l = record {
  leaves : l.leaves.items ≡ leaves_to l.grammar l.words (pairs_of l.grammar l.words) l.i;
  pairs : l.pairs ≡ pairs_of l.grammar l.words;
  few : length l.pairs < 4294967295;
}
