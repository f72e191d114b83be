use Rattle.std.proofs.Common.{get_or, sym, ap, ◌∙◌, subst}
use Rattle.mau_signature.specs.Faults.{HasSorts}
use Rattle.mau_renumber.specs.Carried.{op_or_zero}
use Rattle.mau_renumber.proofs.Operators.{carried_sorts, carried_operator}
use Rattle.mau_renumber.proofs.numbers.operator_to.Goals as goal

pub operator-requires : goal.operator-requires
operator-requires c =
    subst (λ d. HasSorts c.args.new.now.hierarchy d) (sym c.in_ok-decl.ensures.value)
    (carried_sorts c.args.old.now.hierarchy c.args.new.now.hierarchy c.args.sorts.now c.first_declaration.result.now c.requires.table c.requires.sorts c.first_declaration.ensures.sorts)

pub returns-in-Some : goal.returns-in-Some
returns-in-Some c =
    ap op_or_zero (sym c.in-Some.is)
    ∙ carried_operator (λ a. get_or c.args.sorts.now a 0) c.args.old.now c.args.new.now c.args.op.0 c.first_declaration.result.now c.in_ok-decl.decl c.in_ok-op.field-0
    c.requires.operator c.first_declaration.ensures.first c.in_ok-decl.ensures.value c.in_ok-op.ensures.number

pub returns : goal.returns
returns c =
    ap op_or_zero (sym c.in-None.is)
    ∙ carried_operator (λ a. get_or c.args.sorts.now a 0) c.args.old.now c.args.new.now c.args.op.0 c.first_declaration.result.now c.in_ok-decl.decl c.in_ok-op.field-0
    c.requires.operator c.first_declaration.ensures.first c.in_ok-decl.ensures.value c.in_ok-op.ensures.number
