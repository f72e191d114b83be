use Rattle.std.proofs.Common.{ℕ, ◌≤◌}
use Rattle.mau_signature.specs.Signature.{IsOperator}
use Rattle.mau_sigcheck.specs.Accepted.{IsAcceptedOperator, HasFewTuples}
use Rattle.mau_sigcheck.proofs.operators.check.Given as goal

abbrev pub invariant-loop-i : goal.invariant-loop-i
invariant-loop-i l = record {
  accepted : (n : ℕ) → IsOperator l.sig n → n ≤ l.i → IsAcceptedOperator l.sig n;
  few : (n : ℕ) → IsOperator l.sig n → n ≤ l.i → HasFewTuples l.sig n;
}
