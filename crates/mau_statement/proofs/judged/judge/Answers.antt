use Rattle.std.proofs.Common.{Err, sym, ◌∙◌, arith}
use Rattle.mau_signature.specs.Signature.{theory_at}
use Rattle.mau_statement.specs.Statements.{Judged, IsWithinLimits, too_many_variables, head_at_fault, variable_unbound, accepted}
use Rattle.mau_statement.proofs.Handed.{said}
use Rattle.mau_statement.proofs.judged.judge.Goals as goal

pub returns-then-variable_count-gt-MAX_VARIABLES-clause-fault : goal.returns-then-variable_count-gt-MAX_VARIABLES-clause-fault
returns-then-variable_count-gt-MAX_VARIABLES-clause-fault c = too_many_variables (omega (arith, c.variable_count.ensures))

pub returns-in-Some-clause-fault : goal.returns-in-Some-clause-fault
returns-in-Some-clause-fault c =
    let within : IsWithinLimits c.args._fragments c.args.statement.now = record {
      variables = omega (arith, c.variable_count.ensures);
      fragments = c.requires.few;
    } in
    said (λ f. Judged (theory_at c.args.signature.now) c.args._fragments c.args.statement.now (Err f)) c.in-Some.fault (head_at_fault c.in-Some.fault within (sym c.in-Some.ensures))

pub returns-then-branch-clause-fault : goal.returns-then-branch-clause-fault
returns-then-branch-clause-fault c =
    let within : IsWithinLimits c.args._fragments c.args.statement.now = record {
      variables = omega (arith, c.variable_count.ensures);
      fragments = c.requires.few;
    } in
    variable_unbound within (sym c.in-None.ensures) (sym c.in_ok-has_unbound-in-None.ensures ∙ c.if-branch.true)

pub returns-else-branch-clause-accepted : goal.returns-else-branch-clause-accepted
returns-else-branch-clause-accepted c =
    let within : IsWithinLimits c.args._fragments c.args.statement.now = record {
      variables = omega (arith, c.variable_count.ensures);
      fragments = c.requires.few;
    } in
    accepted within (sym c.in-None.ensures) (sym c.in_ok-has_unbound-in-None.ensures ∙ c.if-branch.false)
