use Rattle.std.proofs.Common.{◌≡◌, ◌+◌, ◌*◌, map, drop}
use Rattle.mau_terms.specs.Tree.{trees_of}
use Rattle.mau_terms.specs.Depth.{depth, list_depth}
use Rattle.mau_terms.specs.View.{tree_of}
use Rattle.mau_signature.specs.Signature.{theory_at}
use Rattle.mau_syntactic.specs.Free.{have_free_operators}
use Rattle.mau_syntactic.proofs.free.+free.Given as goal

abbrev pub decreases-has_free_operators : goal.decreases-has_free_operators
decreases-has_free_operators l = 2 * depth (tree_of l.term.now)

abbrev pub decreases-have_free_operators : goal.decreases-have_free_operators
decreases-have_free_operators l = 2 * list_depth (map tree_of l.terms.now) + 1

abbrev pub invariant-have_free_operators-loop-term : goal.invariant-have_free_operators-loop-term
invariant-have_free_operators-loop-term l =
    have_free_operators (theory_at l.sig) (trees_of (map tree_of l.terms)) ≡ have_free_operators (theory_at l.sig) (trees_of (map tree_of (drop l.term-index l.terms)))
