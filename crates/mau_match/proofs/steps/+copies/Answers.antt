use Rattle.std.proofs.Common.{arith}
use Rattle.mau_terms.proofs.Sizes.{size_of_node, size_of_first, size_of_rest}
use Rattle.mau_match.proofs.steps.+copies.Goals as goal

pub push_copies_of-push_copies-requires : goal.push_copies_of-push_copies-requires
push_copies_of-push_copies-requires t c = (omega (arith, size_of_node c.args.pattern.now _ _ c.items.result.now c.in-App.is c.items.ensures), tt)

pub push_copies-push_copies_of-requires : goal.push_copies-push_copies_of-requires
push_copies-push_copies_of-requires t c = (omega (arith, size_of_first c.args.patterns.now c.first-item.result c.in-len1-up.len_at_least c.first-item.is), tt)

pub push_copies-push_copies-requires : goal.push_copies-push_copies-requires
push_copies-push_copies-requires t c = (omega (arith, size_of_rest c.args.patterns.now c.in-len1-up.len_at_least), tt)
