-- Why a signature is none, by the part of it that is at fault.
use Rattle.std.specs.Prelude.{◌≡◌, ℕ, List, Option}
use Rattle.mau_poset.specs.Order.{IsLeastCycle}
use Rattle.mau_signature.specs.declared.fault.SigFault.{SigFault}
use Rattle.mau_signature.specs.Faults.{Given}
use Rattle.mau_signature.specs.Signature.{SignatureOf}
use Rattle.mau_sigcheck.specs.declared.fault.CheckFault.{CheckFault}
use Rattle.mau_sigcheck.specs.declared.fault.CheckFault.TheVariants.{TooManyTuples, NotPreregular, NotAssociativeSorts, IdentityLowersSort, NoMemory}
use Rattle.mau_sigcheck.specs.Faults.{IsFirstFaultOf}
use Rattle.mau_signing.specs.declared.fault.SignFault.{SignFault}
use Rattle.mau_signing.specs.declared.fault.SignFault.TheVariants.{Refused, NoMemory as NoMemoryOfSign}
use Rattle.mau_signing.specs.Signed.{cycle_text, declaration_text, operator_fault_text, IsDeclarationFault}

-- the fact of the text with which declarations are refused; want of memory says nothing
abbrev pub IfRefused : SignFault → (List ℕ → Type 0) → Type 0
IfRefused (Refused text) P = P text
IfRefused NoMemoryOfSign P = Unit {0}

-- sorts on a cycle, the least two
pub record IsCycleRefusal (names : List (List ℕ)) (pairs : List (ℕ × ℕ)) (refusal : List ℕ) : Type 0 where
  pub lower : ℕ
  pub upper : ℕ
  pub cycle : IsLeastCycle pairs lower upper
  pub text : refusal ≡ cycle_text names lower upper

-- a declaration at fault, the first one
pub record IsDeclarationRefusal (g : Given) (c : Option ℕ) (refusal : List ℕ) : Type 0 where
  pub fault : SigFault
  pub first : IsDeclarationFault g c fault
  pub text : refusal ≡ declaration_text g.declarations fault

-- the fault is one of an operator, and not want of memory
abbrev pub IsNamed : CheckFault → Type 0
IsNamed (TooManyTuples op n) = Unit {0}
IsNamed (NotPreregular op tuple) = Unit {0}
IsNamed (NotAssociativeSorts op triple) = Unit {0}
IsNamed (IdentityLowersSort op sort) = Unit {0}
IsNamed NoMemory = ⊥

-- an operator that is not accepted, the first one
pub record IsOperatorRefusal (names : List (List ℕ)) (s : SignatureOf) (refusal : List ℕ) : Type 0 where
  pub fault : CheckFault
  pub first : IsFirstFaultOf s fault
  pub text : refusal ≡ operator_fault_text names s fault
