use Rattle.std.proofs.Common.{arith}
use Rattle.mau_terms.proofs.Sizes.{size_of_node, size_of_first, size_of_rest}
use Rattle.mau_match.proofs.sums.+times.Goals as goal

pub times_of-times_in-requires : goal.times_of-times_in-requires
times_of-times_in-requires t c = (omega (arith, size_of_node c.args.pattern.now _ _ c.items.result.now c.in-App.is c.items.ensures), tt)

pub times_in-times_of-requires : goal.times_in-times_of-requires
times_in-times_of-requires t c = (omega (arith, size_of_first c.args.patterns.now c.first-item.result c.in-len1-up.len_at_least c.first-item.is), tt)

pub times_in-times_in-requires : goal.times_in-times_in-requires
times_in-times_in-requires t c = (omega (arith, size_of_rest c.args.patterns.now c.in-len1-up.len_at_least), tt)
