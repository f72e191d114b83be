-- What declarations sign, by what their signature is and what is at fault.
use Rattle.std.proofs.Common.{◌≡◌, ℕ, List, Option, None, Ok, Err, sym, subst}
use Rattle.mau_poset.specs.Order.{IsPoset}
use Rattle.mau_signature.specs.Faults.{Given, IsFaultless}
use Rattle.mau_signature.specs.Signature.{SignatureOf}
use Rattle.mau_sigcheck.specs.Accepted.{IsAccepted, IsWithinLimit}
use Rattle.mau_signing.specs.Signed.{SignatureRead, declaration_at_fault, operator_at_fault, signature_read, signature_over}
use Rattle.mau_signing.specs.Refusals.{IsDeclarationRefusal, IsOperatorRefusal}

module _ (names : List (List ℕ)) (g : Given) (c : Option ℕ) (poset : IsPoset g.hierarchy) where
  pub at_declaration : (text : List ℕ) → IsDeclarationRefusal g c text → SignatureRead names g c (Err text)
  at_declaration text r = subst (λ t. SignatureRead names g c (Err t)) (sym r.text) (declaration_at_fault r.fault poset r.first)

  module _ (s : SignatureOf) (made : s ≡ signature_over g) (none : IsFaultless g g.declarations) (one : c ≡ None) where
    pub at_operator : (text : List ℕ) → IsOperatorRefusal names s text → SignatureRead names g c (Err text)
    at_operator text r =
        let q : IsOperatorRefusal names (signature_over g) text = subst (λ s. IsOperatorRefusal names s text) made r in
        subst (λ t. SignatureRead names g c (Err t)) (sym q.text) (operator_at_fault q.fault poset none one q.first)

    pub all_read : IsAccepted s → IsWithinLimit s → SignatureRead names g c (Ok s)
    all_read a w =
        subst (λ s. SignatureRead names g c (Ok s)) (sym made)
        (signature_read poset none one (subst (λ s. IsAccepted s) made a) (subst (λ s. IsWithinLimit s) made w))
