use Rattle.std.proofs.Common.{◌++◌, sym, ap, ◌∙◌, subst}
use Rattle.std.proofs.lemmas.Result.{IfOk-weaker}
use Rattle.mau_terms.specs.View.{tree_of}
use Rattle.mau_formula.specs.Operators.{operators}
use Rattle.mau_session.specs.Environment.{environment_of, meanings_in}
use Rattle.mau_session.specs.Query.{asked_first}
use Rattle.mau_session.specs.Answers.{match_head}
use Rattle.mau_session.specs.KeptState.{outcome_of}
use Rattle.mau_session.specs.Gains.{GainsListed}
use Rattle.mau_session.proofs.Answering.{gains_terms, gains_asked}
use Rattle.mau_session.proofs.answer.answer_read.Goals as goal

pub returns-then-has_condition-clause-gained : goal.returns-then-has_condition-clause-gained
returns-then-has_condition-clause-gained g c =
    let e = environment_of (operators c.args.session.now.hooks.now) c.args.session.now.limit in
    let ws = c.args.session.now.words.now in
    let t = c.args.terms in
    IfOk-weaker c.answer_where.result _ _ (λ left gained.
    gains_asked e ws c.args.module.now c.args.number c.args.command.now c.args.most t.pattern t.subject t.vars c.requires.read (sym c.has_condition.ensures ∙ c.if-has_condition.true)
    c.args.out.now.items c.answer_where.new.out.items (outcome_of left) gained) c.answer_where.ensures.gained

pub returns-clause-gained : goal.returns-clause-gained
returns-clause-gained g c =
    let e = environment_of (operators c.args.session.now.hooks.now) c.args.session.now.limit in
    let ws = c.args.session.now.words.now in
    let m = c.args.module.now in
    let t = c.args.terms in
    IfOk-weaker c.answer_listing.result _ _ (λ left gained.
    gains_terms e ws m c.args.number c.args.command.now c.args.most t.pattern t.subject t.vars c.requires.read (sym c.has_condition.ensures ∙ c.if-has_condition.false)
    c.args.out.now.items c.write_match_head.new.out.items c.answer_listing.new.out.items (outcome_of left)
    (c.in_ok-write_match_head.ensures ∙ ap (λ w. c.args.out.now.items ++ match_head c.args.number w m) c.has_context-with_context.ensures)
    (subst (λ w. GainsListed m (meanings_in e m) (asked_first w (tree_of t.pattern) (tree_of t.subject) t.vars) c.args.most (outcome_of left) c.write_match_head.new.out.items c.answer_listing.new.out.items) c.has_context-with_context.ensures gained)) c.answer_listing.ensures.gained
