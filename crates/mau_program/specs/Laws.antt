-- Laws of what programs stand on.
use Rattle.mau_poset.specs.Order.{IsPoset}
use Rattle.mau_signature.specs.Made.{IsSignature}
use Rattle.mau_signature.specs.Signature.{SignatureOf}
use Rattle.mau_sigcheck.specs.Accepted.{IsAccepted}
use Rattle.mau_sigcheck.specs.Built.{IsBuiltAndAccepted}

-- a signature that was made from declarations without a fault, and was accepted, is one that the sorts of terms may be asked of
abbrev pub AcceptedAreWellDeclared : Type 0
AcceptedAreWellDeclared = (s : SignatureOf) → IsSignature s → IsPoset s.hierarchy → IsAccepted s → IsBuiltAndAccepted s
