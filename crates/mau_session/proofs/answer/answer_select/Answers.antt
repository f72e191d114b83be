use Rattle.std.proofs.Common.{true, false, sym, subst}
use Rattle.mau_modtext.specs.declared.raw.Setting.TheVariants as Setting
use Rattle.mau_session.specs.Answers.{ok_line, unknown_module_line}
use Rattle.mau_session.specs.KeptState.{state_of}
use Rattle.mau_session.specs.Transcript.{SettingAnswer, module_selected, selects_none}
use Rattle.mau_session.proofs.Answering.{answered_with, refused_with}
use Rattle.mau_session.proofs.answer.answer_select.Goals as goal

pub returns-then-select-clause-gained : goal.returns-then-select-clause-gained
returns-then-select-clause-gained c ws i =
    let st = state_of c.args.state.now in
    let chosen = c.select.ensures.selected c.if-select.true in
    answered_with false _ c.accept_setting.result c.accept_setting.ensures.bytes c.accept_setting.ensures.accepted
    (λ g. record {
      bytes = _;
      answer = subst (λ s. SettingAnswer ws st c.args.number i (Setting.Select c.args.name.now) s (ok_line c.args.number) false) (sym chosen.2) (module_selected c.args.name.now chosen.0 chosen.1);
      gained = g;
    })

pub returns-else-select-clause-gained : goal.returns-else-select-clause-gained
returns-else-select-clause-gained c ws i =
    let st = state_of c.args.state.now in
    let unknown = c.select.ensures.unknown c.if-select.false in
    refused_with _ c.refuse_name.result c.refuse_name.ensures.bytes c.refuse_name.ensures.refused
    (λ g. record {
      bytes = _;
      answer = subst (λ s. SettingAnswer ws st c.args.number i (Setting.Select c.args.name.now) (state_of s) (unknown_module_line c.args.number c.args.name.now) true) (sym unknown.1) (selects_none c.args.name.now unknown.0);
      gained = g;
    })
