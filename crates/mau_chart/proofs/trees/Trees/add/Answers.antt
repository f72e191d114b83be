use Rattle.std.proofs.Common.{◌∙◌, ap, sym, subst, length}
use Rattle.mau_store.specs.Trees.{trees}
use Rattle.mau_chart.specs.Nodes.{node_tree, NamesBelow, Extends}
use Rattle.mau_chart.proofs.Stored.{arguments_of, trees_extend, number_within, tree_over-node}
use Rattle.mau_chart.proofs.trees.Trees.add.Goals as goal

pub intern-requires : goal.intern-requires
intern-requires c = arguments_of c.self.inside.store c.args.node (subst (λ ts. NamesBelow (length ts) c.args.node) (sym c.self.view_is) c.requires)

pub returns-clause-extends : goal.returns-clause-extends
returns-clause-extends c = subst (λ ts. Extends ts (trees c.intern.new.self)) c.self.view_is (trees_extend c.self.inside.store c.intern.new.self c.in_ok-id.ensures.extends)

pub returns-clause-below : goal.returns-clause-below
returns-clause-below c = number_within _ _ _ c.in_ok-id.ensures.ok

pub returns-clause-tree : goal.returns-clause-tree
returns-clause-tree c = c.in_ok-id.ensures.tree ∙ tree_over-node c.self.inside.store c.args.node ∙ ap (λ ts. node_tree ts c.args.node) c.self.view_is
