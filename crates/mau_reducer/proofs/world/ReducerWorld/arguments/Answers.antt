use Rattle.std.proofs.Common.{◌≡◌, ap, ◌∙◌}
use Rattle.mau_terms.specs.Tree.{node}
use Rattle.mau_store.specs.Trees.{tree_at, trees_at}
use Rattle.mau_store.specs.View.{numbers}
use Rattle.mau_evaluation.specs.Evaluation.{order_of}
use Rattle.mau_api.specs.Programs.{program_over}
use Rattle.mau_reduce.specs.declared.arguments.Opened.{Opened}
use Rattle.mau_reduce.specs.Orders.{order_in}
use Rattle.mau_reduce.proofs.AttemptsLeft.{at_some}
use Rattle.mau_reducer.proofs.Taking.{trees_of_ids}
use Rattle.mau_reducer.proofs.world.ReducerWorld.arguments.Goals as goal

pub returns-in-Some-clause-node : goal.returns-in-Some-clause-node
returns-in-Some-clause-node g c =
    let nodes = c.args.store.now in
    at_some (λ (x : Opened). tree_at nodes c.args.term.0 ≡ node x.op.0 (trees_at nodes (numbers x.args.items))) c.in_ok-opened.field-0 c.in-Some.opened c.in-Some.is c.in_ok-opened.ensures.node
    ∙ ap (node c.in-Some.opened.op.0) (trees_of_ids nodes c.in-Some.opened.args.items)

pub returns-in-Some-clause-order : goal.returns-in-Some-clause-order
returns-in-Some-clause-order g c =
    let nodes = c.args.store.now in
    at_some (λ (x : Opened). x.order.items ≡ order_in c.args.self.now.program.now.sig x.op.0 (trees_at nodes (numbers x.args.items))) c.in_ok-opened.field-0 c.in-Some.opened c.in-Some.is c.in_ok-opened.ensures.order
    ∙ ap (order_of (program_over c.args.self.now.program.now (g.N.Natives.operators c.args.self.now.natives)) c.in-Some.opened.op.0) (trees_of_ids nodes c.in-Some.opened.args.items)
