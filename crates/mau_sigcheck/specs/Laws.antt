-- Laws of judging a signature.
use Rattle.std.specs.Prelude.{◌≡◌}
use Rattle.mau_signature.specs.Signature.{SignatureOf}
use Rattle.mau_sigcheck.specs.declared.fault.CheckFault.{CheckFault}
use Rattle.mau_sigcheck.specs.Accepted.{IsAccepted, IsWithinLimit}
use Rattle.mau_sigcheck.specs.Faults.{IsFirstFaultOf}

-- a signature has one first fault at most
abbrev pub FirstFaultsAreOne : Type 0
FirstFaultsAreOne = (s : SignatureOf) (f g : CheckFault) → IsFirstFaultOf s f → IsFirstFaultOf s g → f ≡ g

-- and none where it is accepted, within the limit on tuples
abbrev pub AcceptedHaveNoFault : Type 0
AcceptedHaveNoFault = (s : SignatureOf) (f : CheckFault) → IsAccepted s → IsWithinLimit s → IsFirstFaultOf s f → ⊥
