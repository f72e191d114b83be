use Rattle.std.proofs.Common.{sym, subst}
use Rattle.mau_prove.specs.Making.{Stand}
use Rattle.mau_prove.proofs.rounds.end_round.Goals as goal

pub add_over-requires : goal.add_over-requires
add_over-requires c = subst (Stand c.args.program.now.sig) (sym c.fill_same.ensures) c.in-Ok-Some.ensures

pub returns : goal.returns
returns c = subst (Stand c.args.program.now.sig) (sym c.add_fact.ensures) c.in-Ok-Some-add_over.ensures
