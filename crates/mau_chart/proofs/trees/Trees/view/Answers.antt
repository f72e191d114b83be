use Rattle.std.proofs.Common.{◌∙◌, ap, sym, length, arith}
use Rattle.mau_store.proofs.Standing.{length-trees}
use Rattle.mau_chart.specs.Nodes.{tree_at, node_tree}
use Rattle.mau_chart.proofs.Stored.{names_below, tree_over-node}
use Rattle.mau_chart.proofs.trees.Trees.view.Goals as goal

pub view-requires : goal.view-requires
view-requires c = omega (arith, length-trees c.self.inside.store, ap length c.self.view_is, c.requires)

pub returns-clause-tree : goal.returns-clause-tree
returns-clause-tree c =
    ap (λ ts. tree_at ts c.args.id.0) (sym c.self.view_is)
    ∙ c.view.ensures.tree
    ∙ tree_over-node c.self.inside.store c.view.result
    ∙ ap (λ ts. node_tree ts c.view.result) c.self.view_is

pub returns-clause-older : goal.returns-clause-older
returns-clause-older c = names_below _ c.view.result c.view.ensures.older
