use Rattle.std.proofs.Common.{◌≡◌, All}
use Rattle.std.specs.List.{flat_map, range_with_len}
use Rattle.mau_terms.specs.Finite.{units_of}
use Rattle.mau_signature.specs.Signature.{theory_at}
use Rattle.mau_store.specs.Node.{Extends}
use Rattle.mau_store.specs.Trees.{trees_at}
use Rattle.mau_store.specs.View.{numbers}
use Rattle.mau_api.specs.Terms.{IsTerm}
use Rattle.mau_settling.proofs.beginning.identities.Given as goal

abbrev pub invariant-loop-number : goal.invariant-loop-number
invariant-loop-number l = record {
  trees : trees_at l.store (numbers l.ids.items) ≡ flat_map (λ f. units_of (theory_at l.sig f).id) (range_with_len 1 l.number);
  terms : All (IsTerm l.sig l.store) (numbers l.ids.items);
  extends : Extends l.fn.store l.store;
}
