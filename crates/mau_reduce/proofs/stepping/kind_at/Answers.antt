use Rattle.std.proofs.Common.{◌≡◌, ◌+◌, ◌<◌, ◌∙◌, subst}
use Rattle.mau_poset.specs.Order.{kinds, kind_of}
use Rattle.mau_store.specs.View.{numbers}
use Rattle.mau_reduce.proofs.KindsKept.{under_term}
use Rattle.mau_reduce.proofs.Stepped.{own_kind, kind_itself, of_kind}
use Rattle.mau_reduce.proofs.stepping.kind_at.Goals as goal

pub result_kind-requires : goal.result_kind-requires
result_kind-requires c = (under_term c.args.sig.now c.requires.lawful c.args.store.now c.in-App.ensures.nodes c.args.term.0 c.in-App.op.0 c.requires.term.bare.0 (numbers c.in-App.field-1.now) c.in-App.ensures.node record { within = c.requires.term.within; bare = c.requires.term.bare.1 }).0.operator

pub returns-in-App-clause-term : goal.returns-in-App-clause-term
returns-in-App-clause-term c = of_kind c.args.sig.now c.args.store.now c.args.term.0 c.requires.term c.result_kind.result (c.result_kind.ensures.value ∙ (under_term c.args.sig.now c.requires.lawful c.args.store.now c.in-App.ensures.nodes c.args.term.0 c.in-App.op.0 c.requires.term.bare.0 (numbers c.in-App.field-1.now) c.in-App.ensures.node record { within = c.requires.term.within; bare = c.requires.term.bare.1 }).1)

pub returns-in-Some-clause-own : goal.returns-in-Some-clause-own
returns-in-Some-clause-own c = λ i small.
    own_kind c.args.sig.now i c.kind_of.result small (subst (λ h. c.kind_of.result < h.sorts + kinds h) c.poset.ensures.value c.kind_of.ensures.kind.1)
    (kind_itself c.args.sig.now c.in-Some.zero c.kind_of.result (subst (λ h. c.kind_of.result ≡ kind_of h c.in-Some.zero) c.poset.ensures.value c.kind_of.ensures.value))

pub returns-in-Var-clause-own : goal.returns-in-Var-clause-own
returns-in-Var-clause-own c = λ i small.
    own_kind c.args.sig.now i c.kind_of-in-Var.result small (subst (λ h. c.kind_of-in-Var.result < h.sorts + kinds h) c.poset-in-Var.ensures.value c.kind_of-in-Var.ensures.kind.1)
    (kind_itself c.args.sig.now c.in-Var.variable.sort c.kind_of-in-Var.result (subst (λ h. c.kind_of-in-Var.result ≡ kind_of h c.in-Var.variable.sort) c.poset-in-Var.ensures.value c.kind_of-in-Var.ensures.value))
