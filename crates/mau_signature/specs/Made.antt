-- What every signature is: one that was made from declarations without a fault.
use Rattle.std.specs.Prelude.{◌≡◌, ◌≤◌, List, All, length}
use Rattle.mau_signature.specs.declared.TheConstants.{MAX_DECLARATIONS}
use Rattle.mau_signature.specs.declared.decl.Decl.{Decl}
use Rattle.mau_signature.specs.Faults.{HasSorts, AreNumerals, given, IsFaultless}
use Rattle.mau_signature.specs.Signature.{SignatureOf, signature_of}

-- There are declarations that the signature s is made from, and none of them is at fault.
pub record IsSignature (s : SignatureOf) : Type 0 where
  pub source : List Decl
  pub few : length source ≤ MAX_DECLARATIONS
  pub sorts : All (HasSorts s.hierarchy) source
  pub numerals : AreNumerals s.hierarchy source s.numerals
  pub faultless : IsFaultless (given s.hierarchy source s.numerals) source
  pub made : s ≡ signature_of s.hierarchy source s.numerals
