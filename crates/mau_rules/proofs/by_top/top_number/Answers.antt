use Rattle.mau_store.specs.View.{numbers}
use Rattle.mau_reduce.proofs.KindsKept.{under_term}
use Rattle.mau_rules.proofs.by_top.top_number.Goals as goal

pub returns-in-App-clause-within : goal.returns-in-App-clause-within
returns-in-App-clause-within c =
    (under_term c.args.sig.now c.requires.lawful c.args.store.now c.in-App.ensures.nodes c.args.term.0 c.in-App.op.0 c.requires.term.bare.0 (numbers c.in-App.field-1.now) c.in-App.ensures.node
    record { within = c.requires.term.within; bare = c.requires.term.bare.1 }).0.operator.1
