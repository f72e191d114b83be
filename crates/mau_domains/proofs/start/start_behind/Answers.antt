use Rattle.std.proofs.Common.{sym}
use Rattle.mau_store.specs.Trees.{tree_at, trees_at}
use Rattle.mau_store.specs.View.{numbers}
use Rattle.mau_domains.proofs.Longer.{starts_equal}
use Rattle.mau_domains.proofs.start.start_behind.Goals as goal

pub returns-in-Equal-clause-start : goal.returns-in-Equal-clause-start
returns-in-Equal-clause-start c =
    let nodes = c.args.store.now in
    starts_equal c.args.op.0 c.in-App.top.0 (tree_at nodes c.args.term.now.0) (trees_at nodes (numbers c.in-App.args.now)) c.in-App.ensures.tree (sym c.in-Equal.ensures)
