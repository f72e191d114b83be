use Rattle.std.proofs.Common.{IfSome}
use Rattle.mau_signature.specs.Signature.{theory_at}
use Rattle.mau_canon.specs.Standing.{StandsWithin}
use Rattle.mau_domains.specs.Stored.{IsPartOver}
use Rattle.mau_listing_tests.proofs.parts.values.Given as goal

abbrev pub invariant-loop : goal.invariant-loop
invariant-loop l = record {
  part : IsPartOver l.sig l.store l.part;
  last : IfSome l.last (λ id. StandsWithin (theory_at l.sig) l.store id.0);
}
