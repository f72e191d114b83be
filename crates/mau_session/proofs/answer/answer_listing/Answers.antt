use Rattle.std.proofs.Common.{◌≡◌, IfOk, sym, ap, subst}
use Rattle.mau_terms.specs.View.{tree_of}
use Rattle.mau_terms.specs.Norm.{norm}
use Rattle.mau_canon.specs.declared.fault.BuildFault.TheVariants.{TooDeep, Overflow}
use Rattle.mau_canon.specs.Within.{IsWithin, IsCause}
use Rattle.mau_signature.specs.Signature.{SignatureOf, theory_at}
use Rattle.mau_formula.specs.Operators.{operators}
use Rattle.mau_session.specs.Environment.{environment_of, meanings_in}
use Rattle.mau_session.specs.Query.{QueryOf}
use Rattle.mau_session.specs.KeptQuery.{IsQueryOver}
use Rattle.mau_session.specs.KeptState.{outcome_of}
use Rattle.mau_session.specs.Gains.{GainsListed, gains_too_deep, gains_overflow}
use Rattle.mau_session.proofs.answer.answer_listing.Goals as goal

pub list_first-requires-clause-query : goal.list_first-requires-clause-query
list_first-requires-clause-query g c = subst (λ (s : SignatureOf). IsQueryOver s c.in-Ok.query) c.signature.ensures.value c.in-Ok.ensures.query

pub list_first-requires-clause-within : goal.list_first-requires-clause-within
list_first-requires-clause-within g c =
    subst (λ t. IsWithin (theory_at c.args.module.now.signature) (norm (theory_at c.args.module.now.signature) t)) (sym (ap (λ (q : QueryOf). q.subject) c.in-Ok.ensures.asked))
    (subst (λ (s : SignatureOf). IsWithin (theory_at s) (norm (theory_at s) (tree_of c.args.terms.subject))) c.signature.ensures.value c.in-Ok.ensures.within)

pub returns-in-Ok-clause-gained : goal.returns-in-Ok-clause-gained
returns-in-Ok-clause-gained g c =
    let m = c.args.module.now in
    let e = meanings_in (environment_of (operators c.args.session.now.hooks.now) c.args.session.now.limit) m in
    subst (λ (q : QueryOf). IfOk c.list_first.result (λ left. GainsListed m e q c.args.most (outcome_of left) c.args.out.now.items c.list_first.new.out.items)) c.in-Ok.ensures.asked c.list_first.ensures.gained

pub returns-in_ok-write_text-in-Err-TooDeep-clause-gained : goal.returns-in_ok-write_text-in-Err-TooDeep-clause-gained
returns-in_ok-write_text-in-Err-TooDeep-clause-gained g c =
    let s = c.signature.result.now in
    let t = tree_of c.args.terms.subject in
    gains_too_deep c.args.out.now.items c.write_text.new.out.items
    (subst (λ s. IsCause (theory_at s) (norm (theory_at s) t) TooDeep) c.signature.ensures.value (subst (IsCause (theory_at s) (norm (theory_at s) t)) c.in-Err-TooDeep.field-0-is c.in-Err-TooDeep.ensures.refused))
    c.in_ok-write_text-in-Err-TooDeep.ensures

pub returns-in_ok-write_text-in-Err-Overflow-clause-gained : goal.returns-in_ok-write_text-in-Err-Overflow-clause-gained
returns-in_ok-write_text-in-Err-Overflow-clause-gained g c =
    let s = c.signature.result.now in
    let t = tree_of c.args.terms.subject in
    gains_overflow c.args.out.now.items c.write_text-in-Err-Overflow.new.out.items
    (subst (λ s. IsCause (theory_at s) (norm (theory_at s) t) Overflow) c.signature.ensures.value (subst (IsCause (theory_at s) (norm (theory_at s) t)) c.in-Err-Overflow.field-0-is c.in-Err-Overflow.ensures.refused))
    c.in_ok-write_text-in-Err-Overflow.ensures
