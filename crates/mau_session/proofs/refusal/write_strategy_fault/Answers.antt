use Rattle.std.proofs.Common.{◌++◌, sym, ap, ◌∙◌, append_assoc}
use Rattle.std.proofs.lemmas.Result.{on_ok_weaker}
use Rattle.mau_session.specs.Answers.{shown_strategy_fault}
use Rattle.mau_session.proofs.refusal.write_strategy_fault.Goals as goal

pub returns-in-TooManyTokens-clause-ok : goal.returns-in-TooManyTokens-clause-ok
returns-in-TooManyTokens-clause-ok c =
    on_ok_weaker c.write_count.result (λ h. h ∙ append_assoc c.args.out.now.items _ _ ∙ ap (λ f. c.args.out.now.items ++ shown_strategy_fault f) (sym c.in-TooManyTokens.is)) c.write_count.ensures

pub returns-in-Unexpected-clause-ok : goal.returns-in-Unexpected-clause-ok
returns-in-Unexpected-clause-ok c =
    on_ok_weaker c.write_at.result (λ h. h ∙ append_assoc c.args.out.now.items _ _ ∙ ap (λ f. c.args.out.now.items ++ shown_strategy_fault f) (sym c.in-Unexpected.is))
    c.write_at.ensures

pub returns-in-UnknownName-clause-ok : goal.returns-in-UnknownName-clause-ok
returns-in-UnknownName-clause-ok c =
    on_ok_weaker c.write_at-in-UnknownName.result (λ h. h ∙ append_assoc c.args.out.now.items _ _ ∙ ap (λ f. c.args.out.now.items ++ shown_strategy_fault f) (sym c.in-UnknownName.is))
    c.write_at-in-UnknownName.ensures
