use Rattle.mau_deriving.proofs.Kept.{ends_in}
use Rattle.mau_deriving.proofs.derivation.Deriving.question.Goals as goal

pub returns-clause-ends : goal.returns-clause-ends
returns-clause-ends c = λ p hooks limit nodes table can m there b at_b.
    ends_in p hooks limit can.heads can.accepted nodes table can.derived c.args.self.now can.stands can.derives m there b at_b
