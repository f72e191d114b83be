use Rattle.std.proofs.Common.{arith}
use Rattle.mau_terms.proofs.Sizes.{size_of_node, size_of_first, size_of_rest}
use Rattle.mau_statement.proofs.binding.+other.Goals as goal

pub first_other-first_other_in-requires : goal.first_other-first_other_in-requires
first_other-first_other_in-requires t c = (omega (arith, size_of_node c.args.term.now _ _ c.items.result.now c.in-App.is c.items.ensures), tt)

pub first_other_in-first_other-requires : goal.first_other_in-first_other-requires
first_other_in-first_other-requires t c = (omega (arith, size_of_first c.args.terms.now c.first-item.result c.in-len1-up.len_at_least c.first-item.is), tt)

pub first_other_in-first_other_in-requires : goal.first_other_in-first_other_in-requires
first_other_in-first_other_in-requires t c = (omega (arith, size_of_rest c.args.terms.now c.in-len1-up.len_at_least), tt)
