use Rattle.std.proofs.Common.{◌+◌, ◌*◌, All, map, take}
use Rattle.mau_poset.specs.Order.{kind_of as kind_of_sort}
use Rattle.mau_terms.specs.Tree.{trees_of}
use Rattle.mau_terms.specs.Depth.{depth, list_depth}
use Rattle.mau_terms.specs.Bare.{IsBareIn, AreBareIn}
use Rattle.mau_terms.specs.Reading.{reading}
use Rattle.mau_signature.specs.Signature.{terms_over, theory_at}
use Rattle.mau_store.specs.Trees.{tree_at, trees_at}
use Rattle.mau_store.specs.View.{numbers}
use Rattle.mau_trial.proofs.kinds.+kinds.Given as goal

abbrev pub decreases-kind_of : goal.decreases-kind_of
decreases-kind_of l = 5 * depth (tree_at l.store.now l.id.0)

abbrev pub decreases-are_arguments : goal.decreases-are_arguments
decreases-are_arguments l = 5 * list_depth (trees_at l.store.now (numbers l.args.now)) + 3

abbrev pub decreases-is_of_kind : goal.decreases-is_of_kind
decreases-is_of_kind l = 5 * depth (tree_at l.store.now l.id.0) + 1

abbrev pub decreases-are_of_kind : goal.decreases-are_of_kind
decreases-are_of_kind l = 5 * list_depth (trees_at l.store.now (numbers l.ids.now)) + 2

abbrev pub decreases-are_of_kinds : goal.decreases-are_of_kinds
decreases-are_of_kinds l = 5 * list_depth (trees_at l.store.now (numbers l.ids.now)) + 2

abbrev pub invariant-are_of_kind-loop-id : goal.invariant-are_of_kind-loop-id
invariant-are_of_kind-loop-id l = All (λ t. IsBareIn (terms_over l.sig) (reading (theory_at l.sig) t) l.kind) (trees_at l.store (numbers (take l.id-index l.ids)))

abbrev pub invariant-are_of_kinds-loop-i : goal.invariant-are_of_kinds-loop-i
invariant-are_of_kinds-loop-i l =
    AreBareIn (terms_over l.sig) (trees_of (map (reading (theory_at l.sig)) (trees_at l.store (numbers (take l.i l.ids))))) (map (kind_of_sort l.sig.hierarchy) (take l.i l.sorts))
