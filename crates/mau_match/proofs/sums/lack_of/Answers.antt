use Rattle.std.proofs.Common.{sym, subst}
use Rattle.mau_store.specs.Trees.{tree_at, trees_at}
use Rattle.mau_store.specs.View.{numbers}
use Rattle.mau_match.specs.Sums.{IsSum}
use Rattle.mau_match.proofs.Uneven.{one_beside}
use Rattle.mau_match.proofs.sums.lack_of.Goals as goal

pub returns-else-is_sum : goal.returns-else-is_sum
returns-else-is_sum c = λ beside h.
    let nodes = c.args.store.now in
    one_beside c.args.counts.now (trees_at nodes (numbers c.args.items.now)) beside h (tree_at nodes c.args.term.0) (λ s. c.is_sum.ensures c.if-is_sum.false (subst (IsSum c.args.counts.now) (sym c.count_of.ensures.value) s))
