use Rattle.mau_parse.proofs.TreesFound.{number_of_first}
use Rattle.mau_parse.proofs.trees.number_of.Goals as goal

pub returns : goal.returns
returns c = number_of_first c.args.trees.now c.args.ids.now _ c.requires
