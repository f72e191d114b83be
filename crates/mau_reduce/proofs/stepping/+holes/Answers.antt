use Rattle.std.proofs.Common.{arith}
use Rattle.mau_terms.proofs.Sizes.{size_of_node, size_of_first, size_of_rest}
use Rattle.mau_reduce.proofs.stepping.+holes.Goals as goal

pub add_holes-add_all_holes-requires : goal.add_holes-add_all_holes-requires
add_holes-add_all_holes-requires t c = (omega (arith, size_of_node c.args.term.now _ _ c.items.result.now c.in-App.is c.items.ensures), tt)

pub add_all_holes-add_holes-requires : goal.add_all_holes-add_holes-requires
add_all_holes-add_holes-requires t c = (omega (arith, size_of_first c.args.terms.now c.first-item.result c.in-len1-up.len_at_least c.first-item.is), tt)

pub add_all_holes-add_all_holes-requires : goal.add_all_holes-add_all_holes-requires
add_all_holes-add_all_holes-requires t c = (omega (arith, size_of_rest c.args.terms.now c.in-len1-up.len_at_least), tt)
