use Rattle.std.proofs.Common.{◌++◌, sym, ap, ◌∙◌, append_assoc}
use Rattle.std.proofs.lemmas.Result.{on_ok_weaker}
use Rattle.mau_session.specs.Where.{shown_condition_fault}
use Rattle.mau_session.proofs.refusal.write_condition_fault.Goals as goal

pub returns-in-UnknownSort-clause-ok : goal.returns-in-UnknownSort-clause-ok
returns-in-UnknownSort-clause-ok c =
    on_ok_weaker c.write_at.result (λ h. h ∙ append_assoc c.args.out.now.items _ _ ∙ ap (λ f. c.args.out.now.items ++ shown_condition_fault f) (sym c.in-UnknownSort.is)) c.write_at.ensures
