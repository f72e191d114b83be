-- The operators of a signature.
use Rattle.std.proofs.Common.{◌≡◌, ℕ, nat_lt, nat_le, true, length}
use Rattle.std.proofs.lemmas.Bool.{ltb-true, leb-true, and_parts}
use Rattle.mau_signature.specs.Signature.{SignatureOf, IsOperator, terms_over}

pub is_operator : (s : SignatureOf) (f : ℕ) → (terms_over s).has_operator f ≡ true → IsOperator s f
is_operator s f e =
    let both = and_parts (nat_lt 0 f) (nat_le f (length s.declarations)) e in
    (ltb-true 0 f both.0, leb-true f (length s.declarations) both.1)
