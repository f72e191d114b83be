use Rattle.std.proofs.Common.{◌≡◌, None, true, sym, subst}
use Rattle.std.proofs.lemmas.Result.{IfOk-weaker}
use Rattle.mau_formula.specs.Operators.{operators}
use Rattle.mau_session.specs.Environment.{environment_of}
use Rattle.mau_session.specs.Answers.{refusal_line}
use Rattle.mau_session.specs.Commands.{unbuilt}
use Rattle.mau_session.specs.KeptState.{state_of}
use Rattle.mau_session.specs.Transcript.{MatchAnswer, command_not_built, module_unknown}
use Rattle.mau_session.proofs.Answering.{refused_with, gains_chosen}
use Rattle.mau_session.proofs.answer.answer_match.Goals as goal

pub returns-in-Some-clause-gained : goal.returns-in-Some-clause-gained
returns-in-Some-clause-gained g c =
    refused_with _ c.refuse.result c.refuse.ensures.bytes c.refuse.ensures.refused
    (λ g. record {
      bytes = _;
      answer = command_not_built c.in-Some.word (sym c.in-Some.ensures.unbuilt);
      gained = g;
    })

pub returns-in-Err-clause-gained : goal.returns-in-Err-clause-gained
returns-in-Err-clause-gained g c =
    let e = environment_of (operators c.args.session.now.hooks.now) c.args.session.now.limit in
    let ws = c.args.session.now.words.now in
    let st = state_of c.args.state.now in
    let built : unbuilt ws c.args.command.now ≡ None = sym c.in-None.ensures.unbuilt in
    let u = c.in-Err.ensures.unknown in
    refused_with _ c.refuse-in-Err.result c.refuse-in-Err.ensures.bytes c.refuse-in-Err.ensures.refused
    (λ g. record {
      bytes = _;
      answer = subst (λ r. MatchAnswer e ws st c.args.number c.args.command.now st (refusal_line c.args.number ws r) true) (sym u.named) (module_unknown u.token built u.none);
      gained = g;
    })

pub returns-in-Ok-clause-gained : goal.returns-in-Ok-clause-gained
returns-in-Ok-clause-gained g c =
    let e = environment_of (operators c.args.session.now.hooks.now) c.args.session.now.limit in
    let ws = c.args.session.now.words.now in
    let st = state_of c.args.state.now in
    let built : unbuilt ws c.args.command.now ≡ None = sym c.in-None.ensures.unbuilt in
    IfOk-weaker c.answer_chosen.result _ _
    (λ r g. gains_chosen e ws st c.args.number c.args.command.now c.in-Ok.chosen (state_of c.answer_chosen.new.state) c.args.out.now.items c.answer_chosen.new.out.items r built c.in-Ok.ensures.chosen g)
    c.answer_chosen.ensures.gained
