use Rattle.std.proofs.Common.{ap, length, arith}
use Rattle.mau_chart.specs.Nodes.{tree_at}
use Rattle.mau_parse.specs.Terms.{pairs_in}
use Rattle.mau_parse.proofs.Renamed.{few_added}
use Rattle.mau_parse.proofs.results.two_terms.Goals as goal

pub term_of-requires-2-clause-room : goal.term_of-requires-2-clause-room
term_of-requires-2-clause-room c =
    omega (arith, few_added c.in_ok-more.more (pairs_in c.args.pairs.now (tree_at c.args.trees.now c.args.first.0)), ap length c.in_ok-one.ensures.vars, ap length c.in_ok-more.ensures)
