use Rattle.mau_declare.proofs.Counting.{found_here, passed_here}
use Rattle.mau_declare.proofs.flatten.declared_form.Goals as goal

pub returns-then-rest-forms : goal.returns-then-rest-forms
returns-then-rest-forms c =
    found_here (λ o. o.forms) c.args.operators.now c.loop-ops.ops-index c.ops-item.result c.loop-ops-test.true c.ops-item.is c.items-forms.result.now c.items-forms.ensures c.args.number c.loop-ops.rest
    c.loop-ops.invariant c.index-forms-rest.result c.if-rest-forms.true c.index-forms-rest.is

pub loop-ops-preserved : goal.loop-ops-preserved
loop-ops-preserved c =
    passed_here (λ o. o.forms) c.args.operators.now c.loop-ops.ops-index c.ops-item.result c.loop-ops-test.true c.ops-item.is c.items-forms.result.now c.items-forms.ensures c.args.number c.loop-ops.rest
    c.loop-ops.invariant c.if-rest-forms.false
