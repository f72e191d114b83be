use Rattle.std.proofs.Common.{◌++◌, ◌+◌, codes, decimal, sym, ap, ◌∙◌, append_assoc}
use Rattle.std.proofs.lemmas.Result.{on_ok_weaker}
use Rattle.mau_session.specs.Answers.{shown_refusal}
use Rattle.mau_session.proofs.refusal.Refusal.write.Goals as goal

pub returns-in_ok-write_text-in-UnknownModule : goal.returns-in_ok-write_text-in-UnknownModule
returns-in_ok-write_text-in-UnknownModule c =
    let old = c.args.out.now.items in
    let text = c.text-in-UnknownModule.result.now in
    on_ok_weaker c.write_text-in-UnknownModule-2.result
    (λ e. e ∙ ap (λ x. x ++ text) c.in_ok-write_text-in-UnknownModule.ensures ∙ append_assoc old (codes "UnknownModule ") text
    ∙ ap (λ t. old ++ (codes "UnknownModule " ++ t)) c.text-in-UnknownModule.ensures ∙ ap (λ r. old ++ shown_refusal c.args.words.now r) (sym c.in-UnknownModule.is))
    c.write_text-in-UnknownModule-2.ensures

pub returns-in_ok-write_text-in-RewritingCondition : goal.returns-in_ok-write_text-in-RewritingCondition
returns-in_ok-write_text-in-RewritingCondition c =
    let old = c.args.out.now.items in
    let shown = decimal (c.in-RewritingCondition.rule + 1) in
    on_ok_weaker c.write_number.result
    (λ e. e ∙ ap (λ x. x ++ shown) c.in_ok-write_text-in-RewritingCondition.ensures ∙ append_assoc old (codes "RewritingCondition ") shown ∙ ap (λ r. old ++ shown_refusal c.args.words.now r) (sym c.in-RewritingCondition.is))
    c.write_number.ensures
