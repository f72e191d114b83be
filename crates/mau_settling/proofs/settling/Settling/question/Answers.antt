use Rattle.std.proofs.Common.{refl, sym}
use Rattle.mau_settling.proofs.Ended.{conditions_end}
use Rattle.mau_settling.proofs.settling.Settling.question.Goals as goal

pub returns-in-Some-question-clause-asks : goal.returns-in-Some-question-clause-asks
returns-in-Some-question-clause-asks c = record { derivation = c.in-Some.derivation; is = c.in-Some.is; at_place = refl; question = sym c.in-Some-question.ensures.value }

pub returns-in-Some-question-clause-ends : goal.returns-in-Some-question-clause-ends
returns-in-Some-question-clause-ends c = λ p hooks limit nodes table can.
    conditions_end p hooks limit nodes table c.args.self.now can c.in-Some.derivation.at c.in-Some-question.binding.now
    (record { derivation = c.in-Some.derivation; is = c.in-Some.is; at_place = refl; question = sym c.in-Some-question.ensures.value })
