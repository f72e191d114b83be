use Rattle.std.proofs.Common.{IfSome, subst}
use Rattle.mau_signature.specs.Signature.{theory_at}
use Rattle.mau_canon.specs.Standing.{StandsWithin}
use Rattle.mau_domains.proofs.StoredValues.{part_stays}
use Rattle.mau_listing_tests.proofs.parts.values.Goals as goal

pub loop-preserved : goal.loop-preserved
loop-preserved c = record {
  part = part_stays c.args.sig.now c.loop.store c.next_value.new.store c.next_value.ensures.extends c.args.part.now c.loop.invariant.part;
  last = subst (λ o. IfSome o (λ id. StandsWithin (theory_at c.args.sig.now) c.next_value.new.store id.0)) c.in-Some.is c.in_ok-value.ensures.within;
}
