use Rattle.std.proofs.Common.{◌≡◌, ◌<◌, ◌≤◌, length, sym, ◌∙◌, arith}
use Rattle.mau_definition.specs.Definitions.{too_many_variables, too_many_fragments, variable_unbound, accepted}
use Rattle.mau_definition.proofs.definition.judge.Goals as goal

pub returns-then-len-gt-MAX_VARIABLES-clause-fault : goal.returns-then-len-gt-MAX_VARIABLES-clause-fault
returns-then-len-gt-MAX_VARIABLES-clause-fault c = too_many_variables (omega (arith, c.len.ensures.counted, c.if-len-gt-MAX_VARIABLES.true))

pub returns-then-fragments-gt-MAX_FRAGMENTS-clause-fault : goal.returns-then-fragments-gt-MAX_FRAGMENTS-clause-fault
returns-then-fragments-gt-MAX_FRAGMENTS-clause-fault c =
    too_many_fragments (omega (arith, c.len.ensures.counted, c.if-len-gt-MAX_VARIABLES.false)) (omega (arith, c.if-fragments-gt-MAX_FRAGMENTS.true))

pub returns-in-Ok-true-clause-accepted : goal.returns-in-Ok-true-clause-accepted
returns-in-Ok-true-clause-accepted c =
    accepted (omega (arith, c.len.ensures.counted, c.if-len-gt-MAX_VARIABLES.false)) (omega (arith, c.if-fragments-gt-MAX_FRAGMENTS.false))
    (sym c.in-Ok-true.ensures ∙ c.in-Ok-true.field-0-test)

pub returns-in-Ok-false-clause-fault : goal.returns-in-Ok-false-clause-fault
returns-in-Ok-false-clause-fault c =
    variable_unbound (omega (arith, c.len.ensures.counted, c.if-len-gt-MAX_VARIABLES.false)) (omega (arith, c.if-fragments-gt-MAX_FRAGMENTS.false))
    (sym c.in-Ok-false.ensures ∙ c.in-Ok-false.field-0-test)
