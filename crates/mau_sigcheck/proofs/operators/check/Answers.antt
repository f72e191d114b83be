use Rattle.std.proofs.Common.{◌+◌, ◌≤◌, ◌≡◌, length, subst, arith}
use Rattle.mau_sigcheck.specs.Accepted.{IsAcceptedOperator, HasFewTuples}
use Rattle.mau_sigcheck.proofs.Reached.{one_further, too_many, not_preregular, not_associative, lowers}
use Rattle.mau_sigcheck.proofs.operators.check.Goals as goal

pub loop-i-preserved : goal.loop-i-preserved
loop-i-preserved c =
    let s = c.args.sig.now in
    let i = c.loop-i.i in
    record {
      accepted = one_further s (IsAcceptedOperator s) i c.loop-i.invariant.accepted (subst (λ k. IsAcceptedOperator k (i + 1)) c.in_ok-checker.ensures c.in-Ok.ensures.ok);
      few = one_further s (HasFewTuples s) i c.loop-i.invariant.few (subst (λ k. HasFewTuples k (i + 1)) c.in_ok-checker.ensures c.in-Ok.ensures.few);
    }

pub returns-in-Err-clause-too_many_tuples : goal.returns-in-Err-clause-too_many_tuples
returns-in-Err-clause-too_many_tuples c =
    too_many c.args.sig.now c.in_ok-checker.checker c.loop-i.i c.operators-i-end.result c.in_ok-checker.ensures c.operators-i-end.ensures.value c.loop-i-test.true
    c.loop-i.invariant.few c.loop-i.invariant.accepted c.in-Err.fault c.in-Err.ensures.fault

pub returns-in-Err-clause-not_preregular : goal.returns-in-Err-clause-not_preregular
returns-in-Err-clause-not_preregular c =
    not_preregular c.args.sig.now c.in_ok-checker.checker c.loop-i.i c.operators-i-end.result c.in_ok-checker.ensures c.operators-i-end.ensures.value c.loop-i-test.true
    c.loop-i.invariant.few c.loop-i.invariant.accepted c.in-Err.fault c.in-Err.ensures.fault

pub returns-in-Err-clause-not_associative_sorts : goal.returns-in-Err-clause-not_associative_sorts
returns-in-Err-clause-not_associative_sorts c =
    not_associative c.args.sig.now c.in_ok-checker.checker c.loop-i.i c.operators-i-end.result c.in_ok-checker.ensures c.operators-i-end.ensures.value c.loop-i-test.true
    c.loop-i.invariant.few c.loop-i.invariant.accepted c.in-Err.fault c.in-Err.ensures.fault

pub returns-in-Err-clause-identity_lowers_sort : goal.returns-in-Err-clause-identity_lowers_sort
returns-in-Err-clause-identity_lowers_sort c =
    lowers c.args.sig.now c.in_ok-checker.checker c.loop-i.i c.operators-i-end.result c.in_ok-checker.ensures c.operators-i-end.ensures.value c.loop-i-test.true
    c.loop-i.invariant.few c.loop-i.invariant.accepted c.in-Err.fault c.in-Err.ensures.fault

pub returns-clause-ok : goal.returns-clause-ok
returns-clause-ok c = record {
  operators = λ n op.
      let many : c.operators-i-end.result ≡ length c.args.sig.now.declarations = c.operators-i-end.ensures.value in
      let ends : c.operators-i-end.result ≤ c.loop-i.i = c.loop-i-test.false in
      c.loop-i.invariant.accepted n op (omega arith);
  kinds = c.operators-i-end.ensures.lawful;
}
