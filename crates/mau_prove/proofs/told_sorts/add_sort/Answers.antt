use Rattle.std.proofs.Common.{sym, subst}
use Rattle.mau_prove.specs.Making.{Stand}
use Rattle.mau_prove.proofs.told_sorts.add_sort.Goals as goal

pub returns : goal.returns
returns c = subst (Stand c.args.program.now.sig) (sym c.add_fact.ensures) c.in_ok-fact.ensures
