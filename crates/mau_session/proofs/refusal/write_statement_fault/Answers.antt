use Rattle.std.proofs.Common.{◌++◌, codes, decimal, sym, ap, ◌∙◌, append_assoc}
use Rattle.std.proofs.lemmas.Result.{on_ok_weaker}
use Rattle.mau_session.specs.Answers.{statement_limit_name, shown_statement_fault}
use Rattle.mau_session.proofs.Lines.{four_parts}
use Rattle.mau_session.proofs.refusal.write_statement_fault.Goals as goal

pub returns-in_ok-write_text-in-LimitExceeded : goal.returns-in_ok-write_text-in-LimitExceeded
returns-in_ok-write_text-in-LimitExceeded c =
    let old = c.args.out.now.items in
    let name = statement_limit_name c.in-LimitExceeded.limit in
    on_ok_weaker c.write_text-in-LimitExceeded.result
    (λ h. h ∙ ap (λ x. c.write_text.new.out.items ++ x) c.statement_limit_name.ensures
    ∙ ap (λ x. x ++ name) (c.in_ok-write_text-in-LimitExceeded.ensures ∙ ap (λ x. x ++ codes " ") c.in_ok-write_count-in-LimitExceeded.ensures)
    ∙ four_parts old (codes "LimitExceeded ") (decimal c.args.statement) (codes " ") name
    ∙ ap (λ f. old ++ shown_statement_fault c.args.statement f) (sym c.in-LimitExceeded.is))
    c.write_text-in-LimitExceeded.ensures

pub returns-in-UnknownSort : goal.returns-in-UnknownSort
returns-in-UnknownSort c =
    on_ok_weaker c.write_at.result (λ h. h ∙ append_assoc c.args.out.now.items _ _ ∙ ap (λ f. c.args.out.now.items ++ shown_statement_fault c.args.statement f) (sym c.in-UnknownSort.is)) c.write_at.ensures

pub returns-in-LhsVariable : goal.returns-in-LhsVariable
returns-in-LhsVariable c =
    on_ok_weaker c.write_count-in-LhsVariable.result (λ h. h ∙ append_assoc c.args.out.now.items _ _ ∙ ap (λ f. c.args.out.now.items ++ shown_statement_fault c.args.statement f) (sym c.in-LhsVariable.is))
    c.write_count-in-LhsVariable.ensures

pub returns-in-MembershipHead : goal.returns-in-MembershipHead
returns-in-MembershipHead c =
    on_ok_weaker c.write_count-in-MembershipHead.result (λ h. h ∙ append_assoc c.args.out.now.items _ _ ∙ ap (λ f. c.args.out.now.items ++ shown_statement_fault c.args.statement f) (sym c.in-MembershipHead.is))
    c.write_count-in-MembershipHead.ensures

pub returns-in-UnboundVariable : goal.returns-in-UnboundVariable
returns-in-UnboundVariable c =
    on_ok_weaker c.write_count-in-UnboundVariable.result (λ h. h ∙ append_assoc c.args.out.now.items _ _ ∙ ap (λ f. c.args.out.now.items ++ shown_statement_fault c.args.statement f) (sym c.in-UnboundVariable.is))
    c.write_count-in-UnboundVariable.ensures
