use Rattle.std.proofs.Common.{IfSome}
use Rattle.mau_signature.specs.Signature.{theory_at}
use Rattle.mau_canon.specs.Standing.{StandsWithin}
use Rattle.mau_match.proofs.front.greatest_item.Given as goal

abbrev pub invariant-loop-part : goal.invariant-loop-part
invariant-loop-part l = IfSome l.found (λ b. StandsWithin (theory_at l.sig) l.store b.0)
