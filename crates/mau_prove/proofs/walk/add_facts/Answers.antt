use Rattle.std.proofs.Common.{sym, subst}
use Rattle.mau_prove.specs.Making.{Stand}
use Rattle.mau_prove.proofs.walk.add_facts.Goals as goal

pub returns-then-is_empty : goal.returns-then-is_empty
returns-then-is_empty c = subst (Stand c.args.program.now.sig) (sym c.add_fact.ensures) c.in_ok-end_round.ensures

pub returns : goal.returns
returns c = subst (Stand c.args.program.now.sig) (sym c.add_fact-2.ensures) c.in_ok-end_round.ensures
