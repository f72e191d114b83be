use Rattle.std.proofs.Common.{◌≡◌, ◌++◌, ◌∷◌, [], length, map, take, add-one, sym, ap, ◌∙◌, append_assoc, arith}
use Rattle.std.proofs.lemmas.List.{length-map}
use Rattle.mau_terms.specs.Tree.{node, trees_of}
use Rattle.mau_terms.specs.Depth.{depth}
use Rattle.mau_terms.specs.View.{tree_of, variable_of}
use Rattle.mau_terms.proofs.BareTerms.{bare_node, depth_of_node, at_most_list}
use Rattle.mau_syntactic.specs.declared.part.Part.TheVariants.{Operator}
use Rattle.mau_syntactic.specs.Parts.{parts_of, all_parts_of}
use Rattle.mau_syntactic.proofs.Running.{parts_more, parts_node}
use Rattle.mau_syntactic.proofs.part.+parts.Goals as goal

pub add_all_parts-add_parts-requires : goal.add_all_parts-add_parts-requires
add_all_parts-add_parts-requires t c =
    let k = at_most_list c.args.terms.now c.loop-term.term-index c.term-item.result c.loop-term-test.true in
    (omega (arith, k, ap (λ x. depth (tree_of x)) c.term-item.is), tt)

pub add_all_parts-loop-term-preserved : goal.add_all_parts-loop-term-preserved
add_all_parts-loop-term-preserved t c =
    let k = c.loop-term.term-index in
    let terms = c.args.terms.now in
    let old = c.args.parts.now.items in
    let xs = map variable_of c.args.variables.now in
    let item = c.term-item.result in
    let front = trees_of (map tree_of (take k terms)) in
    c.in_ok-add_parts.ensures
    ∙ ap (λ w. w ++ parts_of xs (tree_of item)) c.loop-term.invariant
    ∙ append_assoc old (all_parts_of xs front) (parts_of xs (tree_of item))
    ∙ ap (λ b. old ++ (all_parts_of xs front ++ parts_of xs (tree_of b))) c.term-item.is
    ∙ ap (λ w. old ++ w) (sym (parts_more xs terms k item c.loop-term-test.true))
    ∙ ap (λ n. old ++ all_parts_of xs (trees_of (map tree_of (take n terms)))) (sym (add-one k))

pub add_parts-add_all_parts-requires : goal.add_parts-add_all_parts-requires
add_parts-add_all_parts-requires t c =
    let e : tree_of c.args.term.now ≡ node c.in-App.op.0 (map tree_of c.items.result.now) = bare_node c.args.term.now c.in-App.op _ c.items.result.now c.in-App.is c.items.ensures in
    let d = depth_of_node c.args.term.now c.in-App.op.0 c.items.result.now e in
    (omega (arith, d), tt)

pub add_parts-returns-in_ok-push-in-App : goal.add_parts-returns-in_ok-push-in-App
add_parts-returns-in_ok-push-in-App t c =
    let old = c.args.parts.now.items in
    let xs = map variable_of c.args.variables.now in
    let op = c.in-App.op in
    let ts = map tree_of c.items.result.now in
    let n = length c.items-in-App.result.now in
    let e : tree_of c.args.term.now ≡ node op.0 ts = bare_node c.args.term.now op _ c.items.result.now c.in-App.is c.items.ensures in
    let size : n ≡ length ts = sym (length-map c.items-in-App.result.now tree_of) ∙ ap length (c.items-in-App.ensures ∙ sym c.items.ensures) in
    c.in_ok-push-in-App.ensures.items
    ∙ ap (λ w. w ++ Operator op n ∷ []) c.in_ok-add_all_parts-in-App.ensures
    ∙ append_assoc old (all_parts_of xs (trees_of ts)) (Operator op n ∷ [])
    ∙ ap (λ w. old ++ w) (parts_node xs op ts n size)
    ∙ ap (λ b. old ++ parts_of xs b) (sym e)
