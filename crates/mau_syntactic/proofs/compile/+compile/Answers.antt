use Rattle.std.proofs.Common.{◌≡◌, ◌++◌, ◌∷◌, [], length, map, take, add-one, sym, ap, ap₂, ◌∙◌, append_assoc, arith}
use Rattle.std.proofs.lemmas.List.{length-map}
use Rattle.mau_terms.specs.Tree.{node, trees_of}
use Rattle.mau_terms.specs.Depth.{depth}
use Rattle.mau_terms.specs.Subst.{add_variables, add_all_variables}
use Rattle.mau_terms.specs.View.{tree_of, variable_of}
use Rattle.mau_terms.proofs.BareTerms.{bare_node, depth_of_node, at_most_list}
use Rattle.mau_syntactic.specs.declared.step.Step.TheVariants.{Operator}
use Rattle.mau_syntactic.specs.Steps.{steps_of, all_steps_of}
use Rattle.mau_syntactic.proofs.Stepped.{steps_more, variables_more, steps_node}
use Rattle.mau_syntactic.proofs.compile.+compile.Goals as goal

pub add_arguments-add_term-requires : goal.add_arguments-add_term-requires
add_arguments-add_term-requires t c =
    let k = at_most_list c.args.terms.now c.loop-term.term-index c.term-item.result c.loop-term-test.true in
    (omega (arith, k, ap (λ x. depth (tree_of x)) c.term-item.is), tt)

pub add_arguments-loop-term-preserved : goal.add_arguments-loop-term-preserved
add_arguments-loop-term-preserved t c =
    let k = c.loop-term.term-index in
    let terms = c.args.terms.now in
    let old = c.args.steps.now.items in
    let xs = map variable_of c.args.variables.now.items in
    let item = c.term-item.result in
    let front = trees_of (map tree_of (take k terms)) in
    record {
      steps =
          c.in_ok-add_term.ensures.steps
          ∙ ap₂ (λ w vs. w ++ steps_of vs (tree_of item)) c.loop-term.invariant.steps c.loop-term.invariant.variables
          ∙ append_assoc old (all_steps_of xs front) (steps_of (add_all_variables xs front) (tree_of item))
          ∙ ap (λ b. old ++ (all_steps_of xs front ++ steps_of (add_all_variables xs front) (tree_of b))) c.term-item.is
          ∙ ap (λ w. old ++ w) (sym (steps_more xs terms k item c.loop-term-test.true))
          ∙ ap (λ n. old ++ all_steps_of xs (trees_of (map tree_of (take n terms)))) (sym (add-one k));
      variables =
          c.in_ok-add_term.ensures.variables
          ∙ ap (λ vs. add_variables vs (tree_of item)) c.loop-term.invariant.variables
          ∙ ap (λ b. add_variables (add_all_variables xs front) (tree_of b)) c.term-item.is
          ∙ sym (variables_more xs terms k item c.loop-term-test.true)
          ∙ ap (λ n. add_all_variables xs (trees_of (map tree_of (take n terms)))) (sym (add-one k));
    }

pub add_term-add_arguments-requires : goal.add_term-add_arguments-requires
add_term-add_arguments-requires t c =
    let e : tree_of c.args.term.now ≡ node c.in-App.op.0 (map tree_of c.items-in-App.result.now) = bare_node c.args.term.now c.in-App.op _ c.items-in-App.result.now c.in-App.is c.items-in-App.ensures in
    let d = depth_of_node c.args.term.now c.in-App.op.0 c.items-in-App.result.now e in
    (omega (arith, d), tt)

pub add_term-returns-in_ok-add_arguments-in-App-clause-steps : goal.add_term-returns-in_ok-add_arguments-in-App-clause-steps
add_term-returns-in_ok-add_arguments-in-App-clause-steps t c =
    let old = c.args.steps.now.items in
    let xs = map variable_of c.args.variables.now.items in
    let op = c.in-App.op in
    let ts = map tree_of c.items-in-App.result.now in
    let n = length c.items.result.now in
    let e : tree_of c.args.term.now ≡ node op.0 ts = bare_node c.args.term.now op _ c.items-in-App.result.now c.in-App.is c.items-in-App.ensures in
    let size : n ≡ length ts = sym (length-map c.items.result.now tree_of) ∙ ap length (c.items.ensures ∙ sym c.items-in-App.ensures) in
    c.in_ok-add_arguments-in-App.ensures.steps
    ∙ ap (λ w. w ++ all_steps_of xs (trees_of ts)) c.in_ok-push-in-App.ensures.items
    ∙ append_assoc old (Operator op n ∷ []) (all_steps_of xs (trees_of ts))
    ∙ ap (λ w. old ++ w) (steps_node xs op ts n size)
    ∙ ap (λ b. old ++ steps_of xs b) (sym e)
