use Rattle.mau_parse.proofs.Singles.{charts_read_trees}
use Rattle.mau_parse.proofs.laws.charts_read_trees.Goals as goal

pub returns : goal.returns
returns c = charts_read_trees
