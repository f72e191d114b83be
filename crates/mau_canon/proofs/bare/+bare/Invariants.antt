use Rattle.std.proofs.Common.{◌≡◌, ◌++◌, ◌+◌, ◌*◌, map, take}
use Rattle.mau_terms.specs.Tree.{trees_of}
use Rattle.mau_terms.specs.Depth.{depth, list_depth}
use Rattle.mau_terms.specs.Norm.{all_pieces, arrange, norm, hold_overflow}
use Rattle.mau_terms.specs.View.{tree_of}
use Rattle.mau_signature.specs.Signature.{theory_at}
use Rattle.mau_store.specs.Node.{AreOf, Extends}
use Rattle.mau_store.specs.Trees.{trees_at}
use Rattle.mau_store.specs.View.{numbers}
use Rattle.mau_terms.specs.Subst.{instance}
use Rattle.mau_canon.specs.Values.{values_in}
use Rattle.mau_canon.proofs.bare.+bare.Given as goal

abbrev pub decreases-normalize : goal.decreases-normalize
decreases-normalize l = 3 * depth (tree_of l.term.now)

abbrev pub decreases-collect_all : goal.decreases-collect_all
decreases-collect_all l = 3 * list_depth (map tree_of l.terms.now) + 2

abbrev pub decreases-collect : goal.decreases-collect
decreases-collect l = 3 * depth (tree_of l.term.now) + 1

abbrev pub invariant-collect_all-loop-term : goal.invariant-collect_all-loop-term
invariant-collect_all-loop-term l = record {
  list :
      arrange (theory_at l.sig l.op.0).comm (trees_at l.store (numbers l.items.items))
      ≡ arrange (theory_at l.sig l.op.0).comm (trees_at l.fn.store (numbers l.fn.items.items)
      ++ all_pieces (theory_at l.sig l.op.0).assoc (theory_at l.sig l.op.0).id l.op.0 (map (norm (theory_at l.sig)) (map (instance (values_in l.fn.store l.variables l.values)) (map tree_of (take l.term-index l.terms)))));
  overflows : l.overflows ≡ hold_overflow (theory_at l.sig) (trees_of (map (norm (theory_at l.sig)) (map (instance (values_in l.fn.store l.variables l.values)) (map tree_of (take l.term-index l.terms)))));
  there : AreOf l.store (numbers l.items.items);
  extends : Extends l.fn.store l.store;
}
