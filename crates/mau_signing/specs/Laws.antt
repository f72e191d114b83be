-- Laws of signing.
use Rattle.std.specs.Prelude.{◌≡◌, ℕ, List, Option, Result}
use Rattle.mau_signature.specs.Faults.{Given}
use Rattle.mau_signature.specs.Signature.{SignatureOf}
use Rattle.mau_signing.specs.Signed.{SignatureRead}

-- declarations over names of sorts are one signature, or have one text of a fault
abbrev pub SignaturesAreOne : Type 0
SignaturesAreOne = (names : List (List ℕ)) (g : Given) (conflict : Option ℕ) (r s : Result SignatureOf (List ℕ)) → SignatureRead names g conflict r → SignatureRead names g conflict s → r ≡ s
