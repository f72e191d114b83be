use Rattle.std.proofs.Common.{arith, subst}
use Rattle.std.proofs.lemmas.Grind.{common_steps}
use Rattle.std.proofs.lemmas.Option.{slice_get-map}
use Rattle.mau_store.specs.Node.{AreNodes}
use Rattle.mau_store.specs.View.{node_of}
use Rattle.mau_store.proofs.Standing.{tree_of_node}
use Rattle.mau_store.proofs.store.Store.view.Goals as goal

pub returns-clause-tree : goal.returns-clause-tree
returns-clause-tree c = tree_of_node c.args.self.now (subst AreNodes c.self.view_is c.self.invariant.are) c.args.id.0 (node_of c.view.result) (grind (arith, common_steps, slice_get-map))
