use Rattle.std.proofs.Common.{◌≡◌, ◌+◌, ◌*◌, map, take}
use Rattle.mau_terms.specs.Tree.{trees_of}
use Rattle.mau_terms.specs.Depth.{depth, list_depth}
use Rattle.mau_terms.specs.Solution.{add_all_places}
use Rattle.mau_terms.specs.View.{tree_of}
use Rattle.mau_signature.specs.Signature.{theory_at}
use Rattle.mau_listing.specs.Places.{places_in, assoc_or_none, AreUnderOperators}
use Rattle.mau_listing.proofs.places.+places.Given as goal

abbrev pub decreases-add_term : goal.decreases-add_term
decreases-add_term l = 2 * depth (tree_of l.term.now)

abbrev pub decreases-add_arguments : goal.decreases-add_arguments
decreases-add_arguments l = 2 * list_depth (map tree_of l.terms.now) + 1

abbrev pub invariant-add_arguments-loop-term : goal.invariant-add_arguments-loop-term
invariant-add_arguments-loop-term l = record {
  places : places_in l.found.items ≡ add_all_places (theory_at l.sig) (assoc_or_none l.sig l.fn.op.0) (places_in l.fn.found.items) (trees_of (map tree_of (take l.term-index l.terms)));
  operators : AreUnderOperators l.sig l.found.items;
}
