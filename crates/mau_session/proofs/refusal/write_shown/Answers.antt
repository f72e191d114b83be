use Rattle.std.proofs.Common.{◌++◌, Result, Ok, Err, codes, decimal, sym, ap, ◌∙◌, append_assoc}
use Rattle.std.specs.Prelude.{OnOk}
use Rattle.mau_session.specs.Answers.{shown_text_fault}
use Rattle.mau_session.proofs.Lines.{four_parts}
use Rattle.mau_session.proofs.refusal.write_shown.Goals as goal

on_ok : {X E P Q : Type 0} (r : Result X E) → (P → Q) → OnOk r P → OnOk r Q
on_ok (Ok x) f h = f h
on_ok (Err e) f h = tt

pub returns-in-Unexpected : goal.returns-in-Unexpected
returns-in-Unexpected c =
    on_ok c.write_at-in-Unexpected.result (λ h. h ∙ append_assoc c.args.out.now.items _ _ ∙ ap (λ f. c.args.out.now.items ++ shown_text_fault f) (sym c.in-Unexpected.is)) c.write_at-in-Unexpected.ensures

pub returns-in_ok-write_text-in-Unsupported-2 : goal.returns-in_ok-write_text-in-Unsupported-2
returns-in_ok-write_text-in-Unsupported-2 c =
    on_ok c.write_at-in-Unsupported.result
    (λ h. h
    ∙ ap (λ x. x ++ codes " " ++ decimal c.in-Unsupported.at) (c.in_ok-write_text-in-Unsupported-2.ensures ∙ ap (λ n. c.write_text.new.out.items ++ n) c.as_str.ensures ∙ ap (λ x. x ++ c.in-Unsupported.name) c.in_ok-write_text-in-Unsupported.ensures)
    ∙ four_parts c.args.out.now.items (codes "Unsupported ") c.in-Unsupported.name (codes " ") (decimal c.in-Unsupported.at)
    ∙ ap (λ f. c.args.out.now.items ++ shown_text_fault f) (sym c.in-Unsupported.is))
    c.write_at-in-Unsupported.ensures
