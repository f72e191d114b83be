use Rattle.std.proofs.Common.{◌≡◌, ◌+◌, ◌*◌, map, take}
use Rattle.mau_terms.specs.Reading.{reading}
use Rattle.mau_terms.specs.View.{tree_of}
use Rattle.mau_signature.specs.Signature.{theory_at}
use Rattle.mau_terms.specs.Depth.{depth, list_depth}
use Rattle.mau_store.specs.Trees.{tree_at, trees_at}
use Rattle.mau_store.specs.View.{numbers}
use Rattle.mau_canon.proofs.readback.+readback.Given as goal

abbrev pub invariant-read_all-loop-id : goal.invariant-read_all-loop-id
invariant-read_all-loop-id l = map tree_of l.terms.items ≡ map (reading (theory_at l.sig)) (trees_at l.store (numbers (take l.id-index l.ids)))

abbrev pub decreases-read : goal.decreases-read
decreases-read l = 2 * depth (tree_at l.store.now l.id.0)

abbrev pub decreases-read_all : goal.decreases-read_all
decreases-read_all l = 2 * list_depth (trees_at l.store.now (numbers l.ids.now)) + 1
