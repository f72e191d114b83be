use Rattle.std.proofs.Common.{◌≡◌, ◌+◌, ◌*◌, take, map}
use Rattle.mau_terms.specs.Depth.{depth, list_depth}
use Rattle.mau_terms.specs.View.{tree_of}
use Rattle.mau_renumber.specs.Carried.{tree_to}
use Rattle.mau_renumber.specs.Tables.{numbers_in}
use Rattle.mau_renumber.proofs.carry.Tables.+term.Given as goal

abbrev pub decreases-terms : goal.decreases-terms
decreases-terms l = 2 * list_depth (map tree_of l.terms.now) + 1

abbrev pub decreases-term : goal.decreases-term
decreases-term l = 2 * depth (tree_of l.term.now)

abbrev pub invariant-terms-loop-term : goal.invariant-terms-loop-term
invariant-terms-loop-term l = map tree_of l.found.items ≡ map (tree_to (numbers_in l.self)) (map tree_of (take l.term-index l.terms))
