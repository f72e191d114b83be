use Rattle.std.proofs.Common.{arith}
use Rattle.mau_terms.proofs.Sizes.{size_of_node, size_of_first, size_of_rest}
use Rattle.mau_match.proofs.hide.+hide.Goals as goal

pub hide-hide_all-requires : goal.hide-hide_all-requires
hide-hide_all-requires t c = (omega (arith, size_of_node c.args.pattern.now _ _ c.items.result.now c.in-App.is c.items.ensures), tt)

pub hide_all-hide-requires : goal.hide_all-hide-requires
hide_all-hide-requires t c = (omega (arith, size_of_first c.args.patterns.now c.first-item.result c.in-len1-up.len_at_least c.first-item.is), tt)

pub hide_all-hide_all-requires : goal.hide_all-hide_all-requires
hide_all-hide_all-requires t c = (omega (arith, size_of_rest c.args.patterns.now c.in-len1-up.len_at_least), tt)
