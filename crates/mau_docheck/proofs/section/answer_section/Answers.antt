use Rattle.std.proofs.Common.{◌≡◌, ◌++◌, Some, None, ap, ◌∙◌, subst}
use Rattle.std.proofs.lemmas.Result.{IfOk-weaker}
use Rattle.mau_module.specs.Library.{last_named}
use Rattle.mau_docheck.specs.Answers.{unknown_line}
use Rattle.mau_docheck.specs.DocumentTranscript.{module_unknown, section_judged}
use Rattle.mau_docheck.proofs.section.answer_section.Goals as goal

pub returns-in-Some : goal.returns-in-Some
returns-in-Some g c = λ text h.
    let at = c.in-Some.ensures.found text h in
    let named = subst (λ n. last_named at.all n ≡ Some at.number) c.as_str.ensures at.last in
    IfOk-weaker c.judge_section.result _ _
    (λ refused j. record { all = at.all; known = at.known; bytes = j.bytes; answer = section_judged at.number c.in-Some.module.now j.bytes refused named at.there j.answer; gained = j.gained })
    c.judge_section.ensures

pub returns-in_ok-write_unknown-in-None : goal.returns-in_ok-write_unknown-in-None
returns-in_ok-write_unknown-in-None g c = λ text h.
    let x = c.args.section.now in
    let no = c.in-None.ensures.none text h in
    record {
      all = no.all;
      known = no.known;
      bytes = unknown_line x.item x.«module»;
      answer = module_unknown (subst (λ n. last_named no.all n ≡ None) c.as_str.ensures no.none);
      gained = c.in_ok-write_unknown-in-None.ensures ∙ ap (λ n. c.args.out.now.items ++ unknown_line x.item n) c.as_str-in-None.ensures;
    }
