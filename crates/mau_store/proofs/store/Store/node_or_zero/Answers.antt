use Rattle.std.proofs.Common.{◌≡◌, slice_get, Some, arith, subst}
use Rattle.std.proofs.lemmas.Grind.{common_steps}
use Rattle.std.proofs.lemmas.Option.{slice_get-map, slice_get_within}
use Rattle.mau_store.specs.Node.{AreNodes}
use Rattle.mau_store.specs.View.{node_of}
use Rattle.mau_store.proofs.Standing.{tree_of_node, tree_at-past}
use Rattle.mau_store.proofs.store.Store.node_or_zero.Goals as goal

pub returns-in-Some-clause-within : goal.returns-in-Some-clause-within
returns-in-Some-clause-within c k d h =
    let s = c.args.self.now in
    let at : slice_get s c.args.id.0 ≡ Some (node_of c.view.result) = grind (arith, common_steps, slice_get-map) in
    let are : AreNodes s = subst AreNodes c.self.view_is c.self.invariant.are in
    omega (arith, are.closed c.args.id.0 (node_of c.view.result) at k d h, slice_get_within s c.args.id.0 (node_of c.view.result) at)

pub returns-in-Some-clause-tree : goal.returns-in-Some-clause-tree
returns-in-Some-clause-tree c =
    let s = c.args.self.now in
    let at : slice_get s c.args.id.0 ≡ Some (node_of c.view.result) = grind (arith, common_steps, slice_get-map) in
    tree_of_node s (subst AreNodes c.self.view_is c.self.invariant.are) c.args.id.0 (node_of c.view.result) at

pub returns-in-None-clause-tree : goal.returns-in-None-clause-tree
returns-in-None-clause-tree c = tree_at-past c.args.self.now c.args.id.0 (grind (arith, common_steps))
