use Rattle.mau_parse.proofs.LeavesListed.{known_at}
use Rattle.mau_parse.proofs.leaves.push_variables.Goals as goal

pub push_variable-requires-clause-known : goal.push_variable-requires-clause-known
push_variable-requires-clause-known c =
    known_at c.args.pairs.now c.loop-reading.pairs c.args.readings.now c.loop-reading.reading-index _ c.loop-reading.invariant.pairs c.loop-reading-test.true c.requires.known
