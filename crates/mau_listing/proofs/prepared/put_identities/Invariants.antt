use Rattle.std.proofs.Common.{◌≡◌, ◌<◌, ◌≤◌, ℕ, Some}
use Rattle.mau_terms.specs.Norm.{unit_tree}
use Rattle.mau_terms.specs.declared.theory.Identity.{Identity}
use Rattle.mau_signature.specs.Signature.{theory_at}
use Rattle.mau_store.specs.Node.{Extends}
use Rattle.mau_canon.specs.Standing.{IsNumberOf}
use Rattle.mau_sorts.specs.Table.{EachIsOver}
use Rattle.mau_listing.proofs.prepared.put_identities.Given as goal

abbrev pub invariant-loop-number : goal.invariant-loop-number
invariant-loop-number l = record {
  identities : (f : ℕ) (i : Identity) → 0 < f → f ≤ l.number → (theory_at l.sig f).id ≡ Some i → (n : ℕ) × IsNumberOf l.store n (unit_tree i);
  extends : Extends l.fn.store l.store;
  terms : EachIsOver l.sig l.fn.store → EachIsOver l.sig l.store;
}
