use Rattle.std.proofs.Common.{◌++◌, length, ap, ◌∙◌, subst}
use Rattle.mau_module.specs.Lawful.{program_of}
use Rattle.mau_check.specs.Judged.{IsJudgement}
use Rattle.mau_docheck.specs.Concluded.{conclusion_of}
use Rattle.mau_docheck.specs.Answers.{accepted_line, accepted_lines, rejected_line}
use Rattle.mau_docheck.specs.DocumentTranscript.{accepts, rejects}
use Rattle.mau_docheck.proofs.Concluding.{two}
use Rattle.mau_docheck.proofs.section.write_judgement.Goals as goal

pub returns-in_ok-write_conclusion-in-Accepted : goal.returns-in_ok-write_conclusion-in-Accepted
returns-in_ok-write_conclusion-in-Accepted c = λ hooks h.
    let m = c.args.module.now in
    let x = c.args.section.now in
    let out = c.args.out.now.items in
    let j = subst (IsJudgement (program_of m) hooks x) c.in-Accepted.is h in
    record {
      bytes = accepted_lines m x;
      answer = accepts j.0;
      gained = two out (accepted_line x.item (length x.facts)) (conclusion_of m x) c.write_accepted.new.out.items c.write_conclusion.new.out.items
          (c.in_ok-write_accepted-in-Accepted.ensures ∙ ap (λ n. out ++ accepted_line x.item n) j.1) (c.in_ok-write_conclusion-in-Accepted.ensures x j.2);
    }

pub returns-in_ok-write_rejected-in-Rejected : goal.returns-in_ok-write_rejected-in-Rejected
returns-in_ok-write_rejected-in-Rejected c = λ hooks h.
    let j = subst (IsJudgement (program_of c.args.module.now) hooks c.args.section.now) c.in-Rejected.is h in
    record { bytes = rejected_line c.args.section.now.item c.in-Rejected.fact; answer = rejects c.in-Rejected.fact j; gained = c.in_ok-write_rejected-in-Rejected.ensures }
