use Rattle.mau_signing.specs.Signed.{operator_fault_text}
use Rattle.mau_signing.proofs.Refusing.{with_text_by, operator_fault}
use Rattle.mau_signing.proofs.signed.accept_signature.Goals as goal

pub returns-in-Err-clause-at_fault : goal.returns-in-Err-clause-at_fault
returns-in-Err-clause-at_fault c =
    let e = c.in-Err.ensures in
    with_text_by (λ v. v.items) (operator_fault_text c.args.names.now c.args.signature.now c.in-Err.fault) c.operator_fault_text.result c.with_text.result
    c.with_text.ensures.text c.with_text.ensures.memory c.operator_fault_text.ensures.text c.operator_fault_text.ensures.named
    (λ n t h. record { fault = c.in-Err.fault; first = operator_fault c.args.signature.now c.in-Err.fault n e.too_many_tuples e.not_preregular e.not_associative_sorts e.identity_lowers_sort; text = h })
