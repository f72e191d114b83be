use Rattle.std.proofs.Common.{◌++◌, length, true, arith, sym, ◌∙◌, ap, subst}
use Rattle.std.proofs.lemmas.Result.{IfOk-weaker}
use Rattle.mau_formula.specs.Operators.{operators}
use Rattle.mau_tokens.specs.Spans.{AreSpans}
use Rattle.mau_modtext.specs.Words.{words_of}
use Rattle.mau_modtext.specs.Items.{AreItems}
use Rattle.mau_session.specs.Answers.{fault_line}
use Rattle.mau_session.specs.Environment.{environment_of}
use Rattle.mau_session.specs.State.{at_first}
use Rattle.mau_session.specs.Transcript.{Transcript, ItemsAnswer, text_refused, items_answered}
use Rattle.mau_session.proofs.Spanned.{few_tokens}
use Rattle.mau_session.proofs.transcript.transcript_of.Goals as goal

pub answers-requires-clause-spans : goal.answers-requires-clause-spans
answers-requires-clause-spans g c =
    subst (λ t. AreSpans t c.deref-in-Ok-from_utf8.result.now) (sym c.in-Ok-from_utf8.ensures.cases.0) (subst (AreSpans c.args.text.now) (sym c.deref-in-Ok-from_utf8.ensures.value) c.in-Ok.ensures.spans)

pub answers-requires-clause-few : goal.answers-requires-clause-few
answers-requires-clause-few g c =
    let few = few_tokens _ _ c.in-Ok.ensures.spans in omega (arith, few, ap length c.deref-in-Ok-from_utf8.ensures.value, c.requires.few)

pub returns-in-Ok-from_utf8 : goal.returns-in-Ok-from_utf8
returns-in-Ok-from_utf8 g c =
    let e = environment_of (operators c.args.hooks.now) c.args.limit in
    let text = c.args.text.now in
    let tokens = c.in-Ok.found.items in
    let items = c.in_ok-items-in-Ok.items.items in
    let same = ap (λ t. words_of t c.deref-in-Ok-from_utf8.result.now) c.in-Ok-from_utf8.ensures.cases.0 ∙ ap (words_of text) c.deref-in-Ok-from_utf8.ensures.value in
    let are = subst (λ ts. AreItems (words_of text ts) items) c.deref.ensures.value c.in_ok-items-in-Ok.ensures in
    IfOk-weaker c.answers.result _ _ (λ r h. items_answered tokens items r.0.items r.1 c.in-Ok.ensures.ok are
    (subst (λ ws. ItemsAnswer e ws at_first 1 items r.0.items r.1) same
    (subst (λ items. ItemsAnswer e (words_of c.in-Ok-from_utf8.text.now c.deref-in-Ok-from_utf8.result.now) at_first 1 items r.0.items r.1) c.deref-in-Ok-from_utf8-2.ensures.value h)))
    c.answers.ensures

pub returns-in_ok-write_fault-in-Err : goal.returns-in_ok-write_fault-in-Err
returns-in_ok-write_fault-in-Err g c =
    subst (λ x. Transcript (environment_of (operators c.args.hooks.now) c.args.limit) c.args.text.now x true) (sym (c.in_ok-write_fault-in-Err.ensures ∙ ap (λ x. x ++ fault_line c.in-Err.fault) c.new-out.ensures.items)) (text_refused c.in-Err.fault (c.in-Err.ensures.fault (c.is_no_memory.ensures c.if-is_no_memory.false)))
