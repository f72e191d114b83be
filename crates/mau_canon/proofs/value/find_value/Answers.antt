use Rattle.std.proofs.Common.{arith, add-one, ◌∙◌}
use Rattle.mau_canon.proofs.Values.{value_past, value_past_end}
use Rattle.mau_canon.proofs.value.find_value.Goals as goal

pub loop-i-preserved : goal.loop-i-preserved
loop-i-preserved c = λ nodes.
    rw add-one (c.loop-i.invariant nodes ∙ value_past nodes c.args.variables.now c.args.values.now c.loop-i.i c.args.variable (record { index = 0; sort = 0 }) (omega arith) (omega arith) c.if-eq.ensures)

pub returns-clause-none : goal.returns-clause-none
returns-clause-none c = λ nodes. c.loop-i.invariant nodes ∙ value_past_end nodes c.args.variables.now c.args.values.now c.loop-i.i c.args.variable (omega arith)
