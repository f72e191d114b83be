use Rattle.std.proofs.Common.{sym, subst}
use Rattle.std.specs.Prelude.{IfOk}
use Rattle.std.proofs.lemmas.Result.{IfOk-weaker}
use Rattle.mau_session.specs.Gains.{GainsBody}
use Rattle.mau_formula.specs.Operators.{operators}
use Rattle.mau_session.specs.Environment.{environment_of}
use Rattle.mau_session.specs.KeptState.{state_of}
use Rattle.mau_session.specs.Transcript.{setting_answered}
use Rattle.mau_session.proofs.answer.answer_body.Goals as goal

pub returns-in-Module-clause-gained : goal.returns-in-Module-clause-gained
returns-in-Module-clause-gained g c =
    let e = environment_of (operators c.args.session.now.hooks.now) c.args.session.now.limit in
    let ws = c.args.session.now.words.now in
    subst (λ b. IfOk c.answer_module.result (GainsBody e ws (state_of c.args.state.now) c.args.number c.args.item b (state_of c.answer_module.new.state)
    c.args.out.now.items c.answer_module.new.out.items)) (sym c.in-Module.is) (c.answer_module.ensures.gained e)

pub returns-in-Command-clause-gained : goal.returns-in-Command-clause-gained
returns-in-Command-clause-gained g c =
    let e = environment_of (operators c.args.session.now.hooks.now) c.args.session.now.limit in
    let ws = c.args.session.now.words.now in
    subst (λ b. IfOk c.answer_command.result (GainsBody e ws (state_of c.args.state.now) c.args.number c.args.item b (state_of c.answer_command.new.state)
    c.args.out.now.items c.answer_command.new.out.items)) (sym c.in-Command.is) c.answer_command.ensures.gained

pub returns-in-Setting-clause-gained : goal.returns-in-Setting-clause-gained
returns-in-Setting-clause-gained g c =
    let e = environment_of (operators c.args.session.now.hooks.now) c.args.session.now.limit in
    let ws = c.args.session.now.words.now in
    subst (λ b. IfOk c.answer_setting.result (GainsBody e ws (state_of c.args.state.now) c.args.number c.args.item b (state_of c.answer_setting.new.state)
    c.args.out.now.items c.answer_setting.new.out.items)) (sym c.in-Setting.is)
    (IfOk-weaker c.answer_setting.result _ _
    (λ r g. record { bytes = g.bytes; answer = setting_answered _ _ g.bytes r g.answer; gained = g.gained }) c.answer_setting.ensures.gained)

pub returns-in-Module-clause-ready : goal.returns-in-Module-clause-ready
returns-in-Module-clause-ready g c = c.answer_module.ensures.ready (environment_of (operators c.args.session.now.hooks.now) c.args.session.now.limit) c.requires.ready

pub returns-in-Setting-clause-ready : goal.returns-in-Setting-clause-ready
returns-in-Setting-clause-ready g c = c.answer_setting.ensures.ready (environment_of (operators c.args.session.now.hooks.now) c.args.session.now.limit) c.requires.ready
