use Rattle.std.proofs.Common.{◌+◌, ◌*◌, map, take}
use Rattle.mau_poset.specs.Order.{kind_of}
use Rattle.mau_terms.specs.Tree.{trees_of}
use Rattle.mau_terms.specs.Depth.{depth, list_depth}
use Rattle.mau_terms.specs.Bare.{AreBareIn}
use Rattle.mau_terms.specs.View.{tree_of}
use Rattle.mau_signature.specs.Signature.{terms_over}
use Rattle.mau_signature.proofs.bare.+bare_terms.Given as goal

abbrev pub decreases-is_bare : goal.decreases-is_bare
decreases-is_bare l = 2 * depth (tree_of l.term.now)

abbrev pub decreases-are_bare : goal.decreases-are_bare
decreases-are_bare l = 2 * list_depth (map tree_of l.terms.now) + 1

abbrev pub invariant-are_bare-loop-i : goal.invariant-are_bare-loop-i
invariant-are_bare-loop-i l = AreBareIn (terms_over l.sig) (trees_of (map tree_of (take l.i l.terms))) (map (kind_of l.sig.hierarchy) (take l.i l.sorts))
