use Rattle.std.proofs.Common.{arith, true, sym, subst}
use Rattle.std.proofs.lemmas.Result.{IfOk-weaker}
use Rattle.mau_formula.specs.Operators.{operators}
use Rattle.mau_facts.specs.Faults.{IsFault}
use Rattle.mau_docheck.specs.DocumentTranscript.{DocumentTranscript, unexpected, bad_number, is_document}
use Rattle.mau_docheck.proofs.Saying.{text_short}
use Rattle.mau_docheck.proofs.document.check.Goals as goal

pub answer_document-requires-clause-few : goal.answer_document-requires-clause-few
answer_document-requires-clause-few g c =
    let short = text_short c.args.bytes.now c.in-Ok.document c.in-Ok.ensures.read in
    omega (arith, short, c.requires.few)

pub returns-in-Ok : goal.returns-in-Ok
returns-in-Ok g c =
    IfOk-weaker c.answer_document.result _ _ (λ r h. is_document c.in-Ok.document r.0.items r.1 c.in-Ok.ensures.read h) c.answer_document.ensures

pub returns-in-Err-Unexpected : goal.returns-in-Err-Unexpected
returns-in-Err-Unexpected g c =
    let hooks = operators c.args.hooks.now in
    let bytes = c.args.bytes.now in
    let fault = subst (IsFault bytes) c.in-Err-Unexpected.field-0-is c.in-Err-Unexpected.ensures.fault in
    IfOk-weaker c.refuse.result _ _
    (λ r h. subst (DocumentTranscript hooks bytes r.0.items) (sym h.1) (subst (λ out. DocumentTranscript hooks bytes out true) (sym h.0) (unexpected c.in-Err-Unexpected.line fault))) c.refuse.ensures

pub returns-in-Err-BadNumber : goal.returns-in-Err-BadNumber
returns-in-Err-BadNumber g c =
    let hooks = operators c.args.hooks.now in
    let bytes = c.args.bytes.now in
    let fault = subst (IsFault bytes) c.in-Err-BadNumber.field-0-is c.in-Err-BadNumber.ensures.fault in
    IfOk-weaker c.refuse-in-Err-BadNumber.result _ _
    (λ r h. subst (DocumentTranscript hooks bytes r.0.items) (sym h.1) (subst (λ out. DocumentTranscript hooks bytes out true) (sym h.0) (bad_number c.in-Err-BadNumber.line fault))) c.refuse-in-Err-BadNumber.ensures
