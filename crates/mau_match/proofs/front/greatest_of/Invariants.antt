use Rattle.std.proofs.Common.{IfSome}
use Rattle.mau_signature.specs.Signature.{theory_at}
use Rattle.mau_canon.specs.Standing.{StandsWithin}
use Rattle.mau_match.proofs.front.greatest_of.Given as goal

abbrev pub invariant-loop-id : goal.invariant-loop-id
invariant-loop-id l = IfSome l.found (λ b. StandsWithin (theory_at l.sig) l.store b.0)
