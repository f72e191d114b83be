use Rattle.std.proofs.Common.{◌≡◌, ◌+◌, ◌*◌, ◌++◌, map, take}
use Rattle.mau_terms.specs.Tree.{trees_of}
use Rattle.mau_terms.specs.Depth.{depth, list_depth}
use Rattle.mau_terms.specs.Subst.{add_all_variables}
use Rattle.mau_terms.specs.View.{tree_of, variable_of}
use Rattle.mau_syntactic.specs.Steps.{all_steps_of}
use Rattle.mau_syntactic.proofs.compile.+compile.Given as goal

abbrev pub decreases-add_term : goal.decreases-add_term
decreases-add_term l = 2 * depth (tree_of l.term.now)

abbrev pub decreases-add_arguments : goal.decreases-add_arguments
decreases-add_arguments l = 2 * list_depth (map tree_of l.terms.now) + 1

abbrev pub invariant-add_arguments-loop-term : goal.invariant-add_arguments-loop-term
invariant-add_arguments-loop-term l = record {
  steps : l.steps.items ≡ l.fn.steps.items ++ all_steps_of (map variable_of l.fn.variables.items) (trees_of (map tree_of (take l.term-index l.terms)));
  variables : map variable_of l.variables.items ≡ add_all_variables (map variable_of l.fn.variables.items) (trees_of (map tree_of (take l.term-index l.terms)));
}
