use Rattle.std.proofs.Common.{IfOk, subst}
use Rattle.mau_formula.specs.Operators.{operators}
use Rattle.mau_docheck.specs.Kept.{AreModulesOf}
use Rattle.mau_docheck.specs.DocumentTranscript.{SectionsAnswer}
use Rattle.mau_docheck.proofs.document.answer_document.Goals as goal

pub returns : goal.returns
returns g c =
    let text = c.args.document.now.text in
    let known = c.in_ok-known.known in
    subst (λ xs. IfOk c.answer_sections.result (λ r. SectionsAnswer (operators c.args.hooks.now) text xs r.0.items r.1)) c.items-2.ensures
    (c.answer_sections.ensures text (subst (λ t. AreModulesOf t known.library known.counts.items) c.items.ensures c.in_ok-known.ensures))
