use Rattle.std.proofs.Common.{sym, subst}
use Rattle.mau_store.specs.View.{numbers}
use Rattle.mau_reduce.specs.Kinds.{AreUnder}
use Rattle.mau_reduce.proofs.KindsKept.{under_term}
use Rattle.mau_reduce.proofs.arguments.open.Goals as goal

pub order_of-requires : goal.order_of-requires
order_of-requires c = (under_term c.args.sig.now c.requires.lawful c.args.store.now c.in-App.ensures.nodes c.args.term.0 c.in-App.op.0 c.requires.term.bare.0 (numbers c.in-App.ids.now) c.in-App.ensures.node record { within = c.requires.term.within; bare = c.requires.term.bare.1 }).0.operator

pub returns-in_ok-order-in-App-clause-under : goal.returns-in_ok-order-in-App-clause-under
returns-in_ok-order-in-App-clause-under c =
    subst (λ ids. AreUnder c.args.sig.now c.args.store.now c.in-App.op.0 (numbers ids)) (sym c.in_ok-args-in-App.ensures.items)
    (under_term c.args.sig.now c.requires.lawful c.args.store.now c.in-App.ensures.nodes c.args.term.0 c.in-App.op.0 c.requires.term.bare.0 (numbers c.in-App.ids.now) c.in-App.ensures.node record { within = c.requires.term.within; bare = c.requires.term.bare.1 }).0

pub returns-in_ok-order-in-App-clause-kind : goal.returns-in_ok-order-in-App-clause-kind
returns-in_ok-order-in-App-clause-kind c = λ k term. (under_term c.args.sig.now c.requires.lawful c.args.store.now c.in-App.ensures.nodes c.args.term.0 c.in-App.op.0 k (numbers c.in-App.ids.now) c.in-App.ensures.node term).1
