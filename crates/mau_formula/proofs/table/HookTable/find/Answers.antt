use Rattle.std.proofs.Common.{◌∙◌, sym, ap, arith, map}
use Rattle.std.specs.Str.{bytes_eq}
use Rattle.mau_formula.specs.Operator.{operator_named}
use Rattle.mau_formula.specs.Operators.{operator_of}
use Rattle.mau_formula.proofs.Finding.{find_here, find_further}
use Rattle.mau_formula.proofs.table.HookTable.find.Goals as goal

pub returns-then-eq : goal.returns-then-eq
returns-then-eq g c =
    sym (ap (λ xs. operator_named (map operator_of xs) c.args.name.now) (sym c.deref-hook-items.ensures.value)
    ∙ c.loop-hook.invariant
    ∙ find_here operator_of (λ o. bytes_eq o.name c.args.name.now) c.deref-hook-items.result.now c.loop-hook.hook-index c.hook-item.result (omega arith) c.hook-item.is
    (ap (λ n. bytes_eq n c.args.name.now) (sym c.name.ensures) ∙ sym c.eq.ensures ∙ c.if-eq.true))

pub loop-hook-preserved : goal.loop-hook-preserved
loop-hook-preserved g c =
    c.loop-hook.invariant
    ∙ find_further operator_of (λ o. bytes_eq o.name c.args.name.now) c.deref-hook-items.result.now c.loop-hook.hook-index c.hook-item.result (omega arith) c.hook-item.is
    (ap (λ n. bytes_eq n c.args.name.now) (sym c.name.ensures) ∙ sym c.eq.ensures ∙ c.if-eq.false)
