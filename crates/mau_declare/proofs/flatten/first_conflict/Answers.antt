use Rattle.std.proofs.Common.{ap, arith, ◌∙◌, length}
use Rattle.std.proofs.lemmas.List.Folds.{length-flat_map-take}
use Rattle.mau_declare.specs.declared.element.Operators.{Operators}
use Rattle.mau_declare.proofs.flatten.first_conflict.Goals as goal

pub overflow_add-before : goal.overflow_add-before
overflow_add-before c =
    let fits = length-flat_map-take (λ o. o.forms) c.args.operators.now c.loop-ops.ops-index c.ops-item.result c.loop-ops-test.true in
    let same = ap length c.items.ensures ∙ ap {A = Operators} (λ o. length o.forms) c.ops-item.is in
    omega (arith, fits, same, c.loop-ops.invariant.counted, c.requires.few)
