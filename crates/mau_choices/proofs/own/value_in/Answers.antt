use Rattle.std.proofs.Common.{◌∙◌, arith, add-one}
use Rattle.mau_choices.proofs.Owned.{found_past, found_here}
use Rattle.mau_choices.proofs.own.value_in.Goals as goal

pub loop-i-preserved : goal.loop-i-preserved
loop-i-preserved c = λ nodes.
    let past = found_past nodes c.args.variables.now c.args.values.now c.loop-i.i c.args.variable (record { index = 0; sort = 0 }) (omega arith) (omega arith) c.if-eq.ensures in
    let was = c.loop-i.invariant nodes in
    rw add-one (was.0 ∙ past.0, was.1 ∙ past.1)

pub returns-then-eq-clause-value : goal.returns-then-eq-clause-value
returns-then-eq-clause-value c = λ nodes.
    let here = found_here nodes c.args.variables.now c.args.values.now c.loop-i.i c.args.variable (record { index = 0; sort = 0 }) (record { 0 = 0 }) (omega arith) (omega arith) c.if-eq.ensures in
    let was = c.loop-i.invariant nodes in
    (was.0 ∙ here.0, was.1 ∙ here.1)
