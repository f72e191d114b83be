use Rattle.std.proofs.Common.{◌≡◌, ◌+◌, ◌*◌, map, take}
use Rattle.mau_terms.specs.Norm.{norm}
use Rattle.mau_signature.specs.Signature.{theory_at}
use Rattle.mau_store.specs.Node.{Extends}
use Rattle.mau_store.specs.Trees.{tree_at, trees_at}
use Rattle.mau_store.specs.View.{numbers}
use Rattle.mau_canon.specs.Standing.{StandWithin}
use Rattle.mau_api.specs.Terms.{fill}
use Rattle.mau_check.proofs.filling.+filling.Given as goal

abbrev pub decreases-fill : goal.decreases-fill
decreases-fill l = 2 * l.context.0 + 1

abbrev pub decreases-fill_all : goal.decreases-fill_all
decreases-fill_all l = 2 * l.below

abbrev pub invariant-fill_all-loop-context : goal.invariant-fill_all-loop-context
invariant-fill_all-loop-context l = record {
  filled :
      trees_at l.store (numbers l.all.items)
      ≡ map (λ c. norm (theory_at l.sig) (fill c (tree_at l.fn.store l.term.0))) (trees_at l.fn.store (numbers (take l.context-index l.contexts)));
  within : StandWithin (theory_at l.sig) l.store (numbers l.all.items);
  extends : Extends l.fn.store l.store;
}
