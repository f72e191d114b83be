use Rattle.std.proofs.Common.{◌≡◌, drop, None, IfSome}
use Rattle.mau_signature.specs.Signature.{theory_at}
use Rattle.mau_store.specs.Trees.{trees_at}
use Rattle.mau_store.specs.View.{numbers}
use Rattle.mau_canon.specs.Standing.{StandsWithin}
use Rattle.mau_listing.specs.Places.{operator_number}
use Rattle.mau_domains.specs.Values.{by_key}
use Rattle.mau_domains.specs.Stored.{tree_in}
use Rattle.mau_domains.specs.Nearest.{nearest_of}
use Rattle.mau_domains.proofs.nearest.nearest_behind.Given as goal

abbrev pub invariant-loop-value : goal.invariant-loop-value
invariant-loop-value l = record {
  same :
      nearest_of (by_key (theory_at l.sig) (operator_number l.under)) 0 (tree_in l.store l.after) None (trees_at l.store (numbers l.values))
      ≡ nearest_of (by_key (theory_at l.sig) (operator_number l.under)) 0 (tree_in l.store l.after) (tree_in l.store l.best) (trees_at l.store (numbers (drop l.value-index l.values)));
  within : IfSome l.best (λ id. StandsWithin (theory_at l.sig) l.store id.0);
}
