use Rattle.std.proofs.Common.{◌≡◌, List, ◌++◌, sym, ap, ◌∙◌, subst}
use Rattle.std.proofs.lemmas.Result.{IfOk-weaker}
use Rattle.mau_terms.specs.View.{tree_of}
use Rattle.mau_formula.specs.Operators.{operators}
use Rattle.mau_modtext.specs.declared.raw.RawFragment.{RawFragment}
use Rattle.mau_module.specs.Conditions.{context_of}
use Rattle.mau_session.specs.Environment.{environment_of, meanings_in}
use Rattle.mau_session.specs.Answers.{match_head}
use Rattle.mau_session.specs.Built.{has_context}
use Rattle.mau_session.specs.Query.{asked_first}
use Rattle.mau_session.specs.Where.{IsConditionOf}
use Rattle.mau_session.specs.KeptWhere.{IsConditionFault}
use Rattle.mau_session.specs.KeptState.{outcome_of, IsReadyOutcome}
use Rattle.mau_session.specs.declared.state.Outcome.TheVariants.{Refused}
use Rattle.mau_session.specs.Gains.{GainsWhere, GainsListedWhere}
use Rattle.mau_session.proofs.Answering.{unread_with, gains_where}
use Rattle.mau_session.proofs.AskedBy.{gains_fault, usable_behind}
use Rattle.mau_session.proofs.such_that.answer_where.Goals as goal

pub returns-in-Err-clause-gained : goal.returns-in-Err-clause-gained
returns-in-Err-clause-gained g c =
    let e = environment_of (operators c.args.session.now.hooks.now) c.args.session.now.limit in
    let ws = c.args.session.now.words.now in
    let m = c.args.module.now in
    let p = tree_of c.args.terms.pattern in
    let t = tree_of c.args.terms.subject in
    let ns = c.args.terms.vars in
    let os = c.read_asked.new.vars in
    let f = c.in-Err.fault in
    unread_with Refused (λ l. GainsWhere e ws m c.args.number c.args.command.now c.args.most p t ns c.args.out.now.items c.refuse_condition.new.out.items (outcome_of l)) c.refuse_condition.result
    c.refuse_condition.ensures.bytes c.refuse_condition.ensures.named c.refuse_condition.ensures.refused
    (λ bytes named. gains_fault e ws m c.args.number c.args.command.now c.args.most p t ns os f
    (subst (λ (raws : List RawFragment). IsConditionFault ws m raws p ns os f) c.items.ensures c.in-Err.ensures.fault) named c.args.out.now.items c.refuse_condition.new.out.items bytes)

pub returns-in-Err-clause-ready : goal.returns-in-Err-clause-ready
returns-in-Err-clause-ready g c =
    unread_with Refused (IsReadyOutcome (environment_of (operators c.args.session.now.hooks.now) c.args.session.now.limit) c.args.module.now) c.refuse_condition.result c.refuse_condition.ensures.bytes c.refuse_condition.ensures.named c.refuse_condition.ensures.refused (λ b n. tt)

pub list_where-requires-clause-usable : goal.list_where-requires-clause-usable
list_where-requires-clause-usable g c =
    usable_behind c.args.session.now.words.now (context_of c.args.module.now) c.args.module.now c.args.terms c.items.result.now c.read_asked.new.vars c.in-Ok.cond c.in-Ok.ensures.condition.reads c.in-Ok.ensures.few c.requires.usable

pub returns-in_ok-write_match_head-in-Ok-clause-gained : goal.returns-in_ok-write_match_head-in-Ok-clause-gained
returns-in_ok-write_match_head-in-Ok-clause-gained g c =
    let e = environment_of (operators c.args.session.now.hooks.now) c.args.session.now.limit in
    let ws = c.args.session.now.words.now in
    let m = c.args.module.now in
    let p = tree_of c.args.terms.pattern in
    let t = tree_of c.args.terms.subject in
    let os = c.read_asked.new.vars in
    let is = subst (λ (raws : List RawFragment). IsConditionOf ws m raws p c.args.terms.vars os c.in-Ok.cond) c.items.ensures c.in-Ok.ensures.condition in
    IfOk-weaker c.list_where.result _ _ (λ left gained.
    gains_where e ws m c.args.number c.args.command.now c.args.most p t c.args.terms.vars os c.in-Ok.cond is c.args.out.now.items c.write_match_head.new.out.items c.list_where.new.out.items (outcome_of left)
    (c.in_ok-write_match_head-in-Ok.ensures ∙ ap (λ w. c.args.out.now.items ++ match_head c.args.number w m) c.has_context-with_context.ensures)
    (subst (λ w. GainsListedWhere m (meanings_in e m) c.in-Ok.cond (asked_first w p t os) c.args.most (outcome_of left) c.write_match_head.new.out.items c.list_where.new.out.items) c.has_context-with_context.ensures gained)) c.list_where.ensures.gained
