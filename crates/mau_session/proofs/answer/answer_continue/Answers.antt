use Rattle.std.proofs.Common.{◌≡◌, Some, None, IfOk, refl, sym, ap, ◌∙◌, subst}
use Rattle.std.specs.Option.{option_map}
use Rattle.mau_formula.specs.Operators.{operators}
use Rattle.mau_session.specs.Environment.{environment_of}
use Rattle.mau_session.specs.KeptState.{state_of, going_of}
use Rattle.mau_session.specs.Gains.{GainsContinue}
use Rattle.mau_session.specs.Transcript.{number_refused, nothing_to_continue}
use Rattle.mau_session.proofs.Answering.{refused_with}
use Rattle.mau_session.proofs.answer.answer_continue.Goals as goal

pub returns-in-Err-clause-gained : goal.returns-in-Err-clause-gained
returns-in-Err-clause-gained g c =
    refused_with _ c.refuse.result c.refuse.ensures.bytes c.refuse.ensures.refused
    (λ g. record { bytes = _; answer = number_refused c.in-Err.refusal (sym c.bound_of.ensures ∙ c.in-Err.is); gained = g })

pub returns-in-None-clause-gained : goal.returns-in-None-clause-gained
returns-in-None-clause-gained g c =
    let e = environment_of (operators c.args.session.now.hooks.now) c.args.session.now.limit in
    let ws = c.args.session.now.words.now in
    let st = state_of c.args.state.now in
    let none : c.args.state.now.going ≡ None = cc in
    let same : c.args.state.now.going ≡ c.take.new.self = cc in
    subst (λ o. IfOk c.refuse-in-None.result (GainsContinue e ws st c.args.number c.args.command.now (record st { going = option_map going_of o }) c.args.out.now.items c.refuse-in-None.new.out.items)) same
    (refused_with (GainsContinue e ws st c.args.number c.args.command.now st c.args.out.now.items c.refuse-in-None.new.out.items) c.refuse-in-None.result c.refuse-in-None.ensures.bytes c.refuse-in-None.ensures.refused
    (λ g. record { bytes = _; answer = nothing_to_continue c.in-Ok.most (sym c.bound_of.ensures ∙ c.in-Ok.is) (ap (option_map going_of) none); gained = g }))

pub returns-in-Some-clause-gained : goal.returns-in-Some-clause-gained
returns-in-Some-clause-gained g c =
    let some : c.args.state.now.going ≡ Some c.in-Some.going = cc in
    c.go_on.ensures.gained (state_of c.args.state.now) refl refl (ap (option_map going_of) some)
