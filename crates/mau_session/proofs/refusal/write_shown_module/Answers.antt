use Rattle.std.proofs.Common.{◌++◌, codes, sym, ap, ◌∙◌, append_assoc}
use Rattle.std.proofs.lemmas.Result.{on_ok_weaker}
use Rattle.mau_session.specs.Answers.{shown_module_fault}
use Rattle.mau_session.proofs.refusal.write_shown_module.Goals as goal

pub returns-in_ok-write_text-in-UnknownModule-clause-ok : goal.returns-in_ok-write_text-in-UnknownModule-clause-ok
returns-in_ok-write_text-in-UnknownModule-clause-ok c =
    let old = c.args.out.now.items in
    let text = c.as_str.result.now in
    on_ok_weaker c.write_text-in-UnknownModule.result
    (λ e. e ∙ ap (λ x. x ++ text) c.in_ok-write_text-in-UnknownModule.ensures ∙ append_assoc old (codes "UnknownModule ") text
    ∙ ap (λ t. old ++ (codes "UnknownModule " ++ t)) c.as_str.ensures ∙ ap (λ f. old ++ shown_module_fault f) (sym c.in-UnknownModule.is))
    c.write_text-in-UnknownModule.ensures

pub returns-in-UnknownSort-clause-ok : goal.returns-in-UnknownSort-clause-ok
returns-in-UnknownSort-clause-ok c =
    on_ok_weaker c.write_at.result (λ h. h ∙ append_assoc c.args.out.now.items _ _ ∙ ap (λ f. c.args.out.now.items ++ shown_module_fault f) (sym c.in-UnknownSort.is)) c.write_at.ensures
