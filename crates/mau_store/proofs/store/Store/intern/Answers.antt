use Rattle.std.proofs.Common.{◌≡◌, Some, slice_get, option_map, ap, sym, ◌∙◌, subst}
use Rattle.std.proofs.lemmas.Option.{slice_get-map}
use Rattle.mau_store.specs.Node.{AreNodes}
use Rattle.mau_store.specs.View.{stored_node, node_of}
use Rattle.mau_store.proofs.Looking.{found_node}
use Rattle.mau_store.proofs.Standing.{tree_of_node}
use Rattle.mau_store.proofs.store.Store.intern.Goals as goal

-- the node stands at the number that was found
stands : (c : goal.In-Some) → slice_get c.args.self.now c.in-Some.index ≡ Some (node_of c.args.node)
stands c =
    ap (λ ns. slice_get ns c.in-Some.index) (sym c.self.view_is)
    ∙ (slice_get-map stored_node c.self.inside.nodes.keys c.in-Some.index
    ∙ (ap (option_map stored_node) c.in-Some.ensures.stored
    ∙ ap Some (found_node c.self.inside.nodes.keys c.args.node c.in-Some.index c.in-Some.field-0-1.now c.in-Some.ensures.index c.in-Some.ensures.stored)))

nodes : (c : goal.In-Some) → AreNodes c.args.self.now
nodes c = subst AreNodes c.self.view_is c.self.invariant.are

pub returns-in-Some-clause-ok : goal.returns-in-Some-clause-ok
returns-in-Some-clause-ok c = stands c

pub returns-in-Some-clause-there : goal.returns-in-Some-clause-there
returns-in-Some-clause-there c k h = (nodes c).shared c.in-Some.index k (node_of c.args.node) (stands c) h

pub returns-in-Some-clause-tree : goal.returns-in-Some-clause-tree
returns-in-Some-clause-tree c = tree_of_node c.args.self.now (nodes c) c.in-Some.index (node_of c.args.node) (stands c)
