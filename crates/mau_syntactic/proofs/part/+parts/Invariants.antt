use Rattle.std.proofs.Common.{◌≡◌, ◌+◌, ◌*◌, ◌++◌, map, take}
use Rattle.mau_terms.specs.Tree.{trees_of}
use Rattle.mau_terms.specs.Depth.{depth, list_depth}
use Rattle.mau_terms.specs.View.{tree_of, variable_of}
use Rattle.mau_syntactic.specs.Parts.{all_parts_of}
use Rattle.mau_syntactic.proofs.part.+parts.Given as goal

abbrev pub decreases-add_parts : goal.decreases-add_parts
decreases-add_parts l = 2 * depth (tree_of l.term.now)

abbrev pub decreases-add_all_parts : goal.decreases-add_all_parts
decreases-add_all_parts l = 2 * list_depth (map tree_of l.terms.now) + 1

abbrev pub invariant-add_all_parts-loop-term : goal.invariant-add_all_parts-loop-term
invariant-add_all_parts-loop-term l = l.parts.items ≡ l.fn.parts.items ++ all_parts_of (map variable_of l.variables) (trees_of (map tree_of (take l.term-index l.terms)))
