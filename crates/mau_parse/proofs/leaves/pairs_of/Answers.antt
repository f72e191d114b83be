use Rattle.std.proofs.Common.{◌∙◌, arith}
use Rattle.mau_parse.proofs.LeavesListed.{pairs_step, few_more}
use Rattle.mau_parse.proofs.leaves.pairs_of.Goals as goal

pub loop-reading-preserved : goal.loop-reading-preserved
loop-reading-preserved c = record {
  pairs = c.in_ok-add.ensures.pairs ∙ pairs_step c.loop-reading.pairs c.args.readings.now c.loop-reading.reading-index _ c.loop-reading-test.true c.loop-reading.invariant.pairs;
  few = few_more c.loop-reading.pairs c.add.new.self _ c.in_ok-add.ensures.pairs (omega arith);
}
