use Rattle.std.proofs.Common.{◌<◌, ◌++◌, All, length, sym, ap₂, ◌∙◌, subst}
use Rattle.mau_reduce.specs.Trying.{IsExecutable}
use Rattle.mau_reduce.proofs.InOrder.{order_within, order_executable}
use Rattle.mau_reduce.proofs.ordering.equations_in_order.Goals as goal

pub returns-clause-within : goal.returns-clause-within
returns-clause-within c =
    subst (All (λ i. i < length c.args.program.now.equations)) (sym (c.in_ok-extend_from_slice.ensures.items ∙ ap₂ (λ xs ys. xs ++ ys) c.in_ok-order.ensures.numbers (c.deref.ensures.value ∙ c.in_ok-last.ensures.numbers)))
    (order_within c.args.program.now.equations)

pub returns-clause-executable : goal.returns-clause-executable
returns-clause-executable c =
    subst (All (IsExecutable c.args.program.now)) (sym (c.in_ok-extend_from_slice.ensures.items ∙ ap₂ (λ xs ys. xs ++ ys) c.in_ok-order.ensures.numbers (c.deref.ensures.value ∙ c.in_ok-last.ensures.numbers)))
    (order_executable c.args.program.now)
