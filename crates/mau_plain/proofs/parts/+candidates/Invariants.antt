use Rattle.std.proofs.Common.{◌+◌, ◌*◌, map, take}
use Rattle.mau_terms.specs.Depth.{depth, list_depth}
use Rattle.mau_terms.specs.View.{tree_of}
use Rattle.mau_signature.specs.Signature.{theory_at}
use Rattle.mau_store.specs.Trees.{trees_at}
use Rattle.mau_store.specs.View.{numbers}
use Rattle.mau_plain.specs.Gathered.{Gathers}
use Rattle.mau_plain.specs.Parts.{IsOfSomeOfAll}
use Rattle.mau_plain.proofs.parts.+candidates.Given as goal

abbrev pub decreases-push_candidates : goal.decreases-push_candidates
decreases-push_candidates l = 2 * depth (tree_of l.pattern.now)

abbrev pub decreases-push_all_candidates : goal.decreases-push_all_candidates
decreases-push_all_candidates l = 2 * list_depth (map tree_of l.patterns.now) + 1

abbrev pub invariant-push_all_candidates-loop-pattern : goal.invariant-push_all_candidates-loop-pattern
invariant-push_all_candidates-loop-pattern l =
    Gathers (theory_at l.sig) l.fn.store l.store l.fn.out.items l.out.items (IsOfSomeOfAll (theory_at l.sig) (map tree_of (take l.pattern-index l.patterns)) (trees_at l.fn.store (numbers l.ids)))
