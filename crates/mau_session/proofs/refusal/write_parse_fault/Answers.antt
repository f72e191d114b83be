use Rattle.std.proofs.Common.{◌++◌, Result, Ok, Err, sym, ap, ◌∙◌, append_assoc}
use Rattle.std.specs.Prelude.{OnOk}
use Rattle.mau_session.specs.Answers.{shown_parse_fault}
use Rattle.mau_session.proofs.refusal.write_parse_fault.Goals as goal

on_ok : {X E P Q : Type 0} (r : Result X E) → (P → Q) → OnOk r P → OnOk r Q
on_ok (Ok x) f h = f h
on_ok (Err e) f h = tt

pub returns-in-TooManyTokens-clause-ok : goal.returns-in-TooManyTokens-clause-ok
returns-in-TooManyTokens-clause-ok c =
    on_ok c.write_count.result (λ h. h ∙ append_assoc c.args.out.now.items _ _ ∙ ap (λ f. c.args.out.now.items ++ shown_parse_fault f) (sym c.in-TooManyTokens.is)) c.write_count.ensures

pub returns-in-NumberTooLarge-clause-ok : goal.returns-in-NumberTooLarge-clause-ok
returns-in-NumberTooLarge-clause-ok c =
    on_ok c.write_at-in-NumberTooLarge.result (λ h. h ∙ append_assoc c.args.out.now.items _ _ ∙ ap (λ f. c.args.out.now.items ++ shown_parse_fault f) (sym c.in-NumberTooLarge.is)) c.write_at-in-NumberTooLarge.ensures
