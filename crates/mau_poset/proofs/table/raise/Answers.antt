use Rattle.mau_poset.proofs.Bits.{sum-raised}
use Rattle.mau_poset.proofs.table.raise.Goals as goal

pub returns-clause-grew : goal.returns-clause-grew
returns-clause-grew c = sum-raised c.args.table.now c.args.at c.args.more c.requires c.if-had-more.false
