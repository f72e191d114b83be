use Rattle.std.proofs.Common.{length, ap, arith}
use Rattle.mau_strat.proofs.Linked.{length-lists_of}
use Rattle.mau_strat.proofs.lists.Lists.len.Goals as goal

pub returns : goal.returns
returns g c = omega (arith, c.len.ensures.len, length-lists_of c.self.inside.links.keys, ap length c.self.view_is)
