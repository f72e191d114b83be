use Rattle.std.proofs.Common.{◌≡◌, map, ap, arith}
use Rattle.mau_terms.specs.Tree.{node}
use Rattle.mau_terms.specs.Depth.{depth}
use Rattle.mau_terms.specs.View.{tree_of}
use Rattle.mau_terms.proofs.BareTerms.{bare_node, depth_of_node, at_most_list}
use Rattle.mau_prove.proofs.contexts.+context.Goals as goal

pub add_context-add_contexts-requires : goal.add_context-add_contexts-requires
add_context-add_contexts-requires t c =
    let e : tree_of c.args.context.now ≡ node c.in-App.op.0 (map tree_of c.items-in-App.result.now) = bare_node c.args.context.now c.in-App.op _ c.items-in-App.result.now c.in-App.is c.items-in-App.ensures in
    let d = depth_of_node c.args.context.now c.in-App.op.0 c.items-in-App.result.now e in
    (omega (arith, d), (c.requires.lawful, c.requires.stand))

pub add_contexts-add_under-requires : goal.add_contexts-add_under-requires
add_contexts-add_under-requires t c =
    let k = at_most_list c.args.contexts.now c.loop-context.context-index c.context-item.result c.loop-context-test.true in
    (omega (arith, k, ap (λ x. depth (tree_of x)) c.context-item.is), (c.requires.lawful, c.loop-context.invariant))

pub add_under-add_contexts-requires : goal.add_under-add_contexts-requires
add_under-add_contexts-requires t c =
    let e : tree_of c.args.context.now ≡ node c.in-App.top.0 (map tree_of c.items.result.now) = bare_node c.args.context.now c.in-App.top _ c.items.result.now c.in-App.is c.items.ensures in
    let d = depth_of_node c.args.context.now c.in-App.top.0 c.items.result.now e in
    (omega (arith, d), (c.requires.lawful, c.requires.stand))
