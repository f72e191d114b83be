-- The laws of signatures and of their faults. Each is proved: a public function of the module `laws` has it for its contract.
use Rattle.std.specs.Prelude.{◌≡◌, ℕ, ◌≤◌, Some, All}
use Rattle.mau_terms.specs.Norm.{greatest_numeral}
use Rattle.mau_terms.specs.Bare.{IsLawful}
use Rattle.mau_signature.specs.FaultOf.{IsFaultOf}
use Rattle.mau_signature.specs.declared.attributes.IdSpec.TheVariants.{Num}
use Rattle.mau_signature.specs.declared.decl.Decl.{Decl}
use Rattle.mau_signature.specs.declared.fault.SigFault.{SigFault}
use Rattle.mau_signature.specs.Faults.{Given, AreNumerals, IsFaultless}
use Rattle.mau_signature.specs.Signature.{signature_of, terms_over}

-- where the identity is a numeral, it has at most 128 bits
abbrev pub HasNumeral : Decl → Type 0
HasNumeral d = (n : ℕ) → d.attrs.id ≡ Some (Num n) → n ≤ greatest_numeral

-- declarations without a fault make a signature with the kinds that axioms need
abbrev pub FaultlessAreLawful : Type 0
FaultlessAreLawful =
    (g : Given) → AreNumerals g.hierarchy g.declarations g.numerals → All HasNumeral g.declarations →
    IsFaultless g g.declarations → IsLawful (terms_over (signature_of g.hierarchy g.declarations g.numerals))

-- ---- faults

-- declarations have one fault at most
abbrev pub FaultsAreOne : Type 0
FaultsAreOne = (g : Given) (f e : SigFault) → IsFaultOf g f → IsFaultOf g e → f ≡ e

-- where no declaration is at fault, there is none
abbrev pub FaultlessHaveNone : Type 0
FaultlessHaveNone = (g : Given) (f : SigFault) → IsFaultless g g.declarations → ¬ IsFaultOf g f
