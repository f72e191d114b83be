use Rattle.std.proofs.Common.{ap}
use Rattle.mau_terms.specs.Tree.{Tree}
use Rattle.mau_store.specs.View.{numbers}
use Rattle.mau_rules.proofs.OpenTerms.{opened_stands, opened_frame}
use Rattle.mau_rules.proofs.frames.open_term.Goals as goal

pub returns-in_ok-args-in-App-clause-stands : goal.returns-in_ok-args-in-App-clause-stands
returns-in_ok-args-in-App-clause-stands c =
    ap (λ (t : Tree). (t, 0)) (opened_stands c.args.sig.now c.args.store.now c.in-App.ensures.nodes c.args.term.0 c.in-App.field-0.0 (numbers c.in-App.ids.now) (numbers c.in_ok-args-in-App.args.items) c.in-App.ensures.node (ap numbers c.in_ok-args-in-App.ensures.items))

pub returns-in_ok-args-in-App-clause-frame : goal.returns-in_ok-args-in-App-clause-frame
returns-in_ok-args-in-App-clause-frame c =
    opened_frame c.args.sig.now c.args.store.now c.in-App.ensures.nodes c.requires.lawful (record { term = c.args.term; args = c.in_ok-args-in-App.args; next = 0 }) c.in-App.field-0.0 (numbers c.in-App.ids.now) c.in-App.ensures.node (ap numbers c.in_ok-args-in-App.ensures.items) c.requires.term
