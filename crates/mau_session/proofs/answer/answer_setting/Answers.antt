use Rattle.std.proofs.Common.{◌≡◌, Bool, true, false, IfOk, sym, ap, ◌∙◌, subst}
use Rattle.mau_modtext.specs.declared.raw.Setting.{Setting as SettingOf}
use Rattle.mau_modtext.specs.declared.raw.Setting.TheVariants.{Trace}
use Rattle.mau_session.specs.Gains.{GainsSetting}
use Rattle.mau_session.specs.KeptState.{state_of}
use Rattle.mau_session.specs.Transcript.{trace_not_built, trace_off, changes_nothing}
use Rattle.mau_session.proofs.Answering.{answered_with, refused_with}
use Rattle.mau_session.proofs.answer.answer_setting.Goals as goal

-- `set trace` with this flag
traces : (s : SettingOf) (b d : Bool) → s ≡ Trace b → b ≡ d → s ≡ Trace d
traces s b d e f = e ∙ ap Trace f

pub returns-in-Trace-true-clause-gained : goal.returns-in-Trace-true-clause-gained
returns-in-Trace-true-clause-gained c =
    subst (λ s. IfOk c.refuse.result (GainsSetting c.args.words.now (state_of c.args.state.now) c.args.number c.args.item s (state_of c.args.state.now) c.args.out.now.items c.refuse.new.out.items)) (sym (traces c.args.setting.now c.in-Trace-true.field-0 true c.in-Trace-true.is (sym c.in-Trace-true.field-0-is ∙ c.in-Trace-true.field-0-test)))
    (refused_with _ c.refuse.result c.refuse.ensures.bytes c.refuse.ensures.refused (λ g. record { bytes = _; answer = trace_not_built; gained = g }))

pub returns-in-Trace-false-clause-gained : goal.returns-in-Trace-false-clause-gained
returns-in-Trace-false-clause-gained c =
    subst (λ s. IfOk c.accept_setting.result (GainsSetting c.args.words.now (state_of c.args.state.now) c.args.number c.args.item s (state_of c.args.state.now) c.args.out.now.items c.accept_setting.new.out.items)) (sym (traces c.args.setting.now c.in-Trace-false.field-0 false c.in-Trace-false.is (sym c.in-Trace-false.field-0-is ∙ c.in-Trace-false.field-0-test)))
    (answered_with false _ c.accept_setting.result c.accept_setting.ensures.bytes c.accept_setting.ensures.accepted (λ g. record { bytes = _; answer = trace_off; gained = g }))

pub returns-in-Ignored-clause-gained : goal.returns-in-Ignored-clause-gained
returns-in-Ignored-clause-gained c =
    subst (λ s. IfOk c.accept_setting-in-Ignored.result (GainsSetting c.args.words.now (state_of c.args.state.now) c.args.number c.args.item s (state_of c.args.state.now) c.args.out.now.items c.accept_setting-in-Ignored.new.out.items)) (sym c.in-Ignored.is)
    (answered_with false _ c.accept_setting-in-Ignored.result c.accept_setting-in-Ignored.ensures.bytes c.accept_setting-in-Ignored.ensures.accepted (λ g. record { bytes = _; answer = changes_nothing; gained = g }))
