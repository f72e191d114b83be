use Rattle.std.proofs.Common.{◌+◌, ◌*◌, map}
use Rattle.mau_terms.specs.Depth.{depth, list_depth}
use Rattle.mau_terms.specs.View.{tree_of}
use Rattle.mau_prove.specs.Making.{Stand}
use Rattle.mau_prove.proofs.contexts.+context.Given as goal

abbrev pub decreases-add_context : goal.decreases-add_context
decreases-add_context l = 3 * depth (tree_of l.context.now)

abbrev pub decreases-add_contexts : goal.decreases-add_contexts
decreases-add_contexts l = 3 * list_depth (map tree_of l.contexts.now) + 2

abbrev pub decreases-add_under : goal.decreases-add_under
decreases-add_under l = 3 * depth (tree_of l.context.now) + 1

abbrev pub invariant-add_contexts-loop-context : goal.invariant-add_contexts-loop-context
invariant-add_contexts-loop-context l = Stand l.program.sig l.lines
