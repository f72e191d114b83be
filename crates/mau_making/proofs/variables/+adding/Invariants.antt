use Rattle.std.proofs.Common.{◌≡◌, ◌+◌, ◌*◌, map, take}
use Rattle.mau_terms.specs.Tree.{trees_of}
use Rattle.mau_terms.specs.Depth.{depth, list_depth}
use Rattle.mau_terms.specs.Subst.{add_all_variables}
use Rattle.mau_terms.specs.View.{tree_of}
use Rattle.mau_making.specs.Variables.{AreOfSorts, variables_in}
use Rattle.mau_making.proofs.variables.+adding.Given as goal

abbrev pub decreases-add_term : goal.decreases-add_term
decreases-add_term l = 2 * depth (tree_of l.term.now)

abbrev pub decreases-add_all : goal.decreases-add_all
decreases-add_all l = 2 * list_depth (map tree_of l.terms.now) + 1

abbrev pub invariant-add_all-loop-term : goal.invariant-add_all-loop-term
invariant-add_all-loop-term l = record {
  added : variables_in l.found.items ≡ add_all_variables (variables_in l.fn.found.items) (trees_of (map tree_of (take l.term-index l.terms)));
  sorts : AreOfSorts l.sig l.found.items;
}
