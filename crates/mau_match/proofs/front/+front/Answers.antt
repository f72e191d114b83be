use Rattle.std.proofs.Common.{arith}
use Rattle.mau_terms.proofs.Sizes.{size_of_node, size_of_first, size_of_rest}
use Rattle.mau_match.proofs.front.+front.Goals as goal

pub with_front-push_with_front-requires : goal.with_front-push_with_front-requires
with_front-push_with_front-requires t c = (omega (arith, size_of_node c.args.pattern.now _ _ c.items.result.now c.in-App.is c.items.ensures), tt)

pub push_with_front-with_front-requires : goal.push_with_front-with_front-requires
push_with_front-with_front-requires t c = (omega (arith, size_of_first c.args.patterns.now c.first-item.result c.in-len1-up.len_at_least c.first-item.is), tt)

pub push_with_front-push_with_front-requires : goal.push_with_front-push_with_front-requires
push_with_front-push_with_front-requires t c = (omega (arith, size_of_rest c.args.patterns.now c.in-len1-up.len_at_least), tt)
