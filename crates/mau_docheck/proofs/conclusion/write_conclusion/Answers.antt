use Rattle.std.proofs.Common.{◌≡◌, ◌++◌, sym, ap, ◌∙◌, subst}
use Rattle.mau_module.specs.Lawful.{program_of}
use Rattle.mau_check.specs.Judged.{IsConclusion, said_last}
use Rattle.mau_docheck.specs.Concluded.{all_variables, leads_line, conclusion_of}
use Rattle.mau_docheck.proofs.Concluding.{on_ok_then, leading}
use Rattle.mau_docheck.proofs.conclusion.write_conclusion.Goals as goal

pub returns-in-Some : goal.returns-in-Some
returns-in-Some c = λ x h.
    let m = c.args.module.now in
    let p = program_of m in
    let ns = all_variables m x in
    let out = c.args.out.now.items in
    let new = c.write_leads.new.out.items in
    let lead = leading m x ns c.in-Some.conclusion (said_last p x) (subst (λ o. IsConclusion p x o (said_last p x)) c.in-Some.is h) in
    on_ok_then c.write_leads.result (new ≡ out ++ leads_line m ns lead.from lead.to) (new ≡ out ++ conclusion_of m x)
    (λ e. e ∙ ap (λ z. out ++ z) (sym lead.line)) (c.write_leads.ensures x lead.from lead.to lead.concludes)
