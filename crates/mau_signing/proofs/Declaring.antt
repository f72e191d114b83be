-- The fault of declarations of which one may give an attribute two values in its list.
use Rattle.std.proofs.Common.{◌≡◌, ℕ, Bool, true, false, Option, Some, None, ◌⊎◌, inl, inr, sym, ◌∙◌, refl, subst}
use Rattle.mau_signature.specs.declared.fault.SigFault.{SigFault}
use Rattle.mau_signature.specs.declared.fault.SigFault.TheVariants.{KindMismatch, AttrConflict, BadStrat, IdNotConstant, Arity, NoMemory}
use Rattle.mau_signature.specs.Faults.{Given, IsFaultless, IsFirstAtFault, HasWrongArity, MismatchesKind, Conflicts, HasBadStrategy, LacksIdentity, IfArity, IfKindMismatch, IfAttrConflict, IfBadStrat, IfIdNotConstant}
use Rattle.mau_signature.specs.FaultOf.{IsFaultOf}
use Rattle.mau_signing.specs.declared.fault.SignFault.{SignFault}
use Rattle.mau_signing.specs.declared.fault.SignFault.TheVariants.{NoMemory as NoMemoryOfSign}
use Rattle.mau_signing.specs.Signed.{comes_first, declaration_text, IsDeclarationFault, declared_wrong, two_values_before, two_values_alone}
use Rattle.mau_signing.specs.Refusals.{IfRefused, IsDeclarationRefusal}
use Rattle.mau_signing.proofs.Refusing.{refused_by}

-- the fault that a signature's making answers: want of memory, or one of the declarations
pub build_fault : (g : Given) (f : SigFault)
    → IfArity (IsFirstAtFault g HasWrongArity) f → IfKindMismatch (IsFirstAtFault g (MismatchesKind g)) f
    → IfAttrConflict (IsFirstAtFault g (Conflicts g)) f → IfBadStrat (IsFirstAtFault g (HasBadStrategy g)) f
    → IfIdNotConstant (IsFirstAtFault g (LacksIdentity g)) f → (f ≡ NoMemory) ⊎ IsFaultOf g f
build_fault g (Arity i) a k c b d = inr a
build_fault g (KindMismatch i) a k c b d = inr k
build_fault g (AttrConflict i) a k c b d = inr c
build_fault g (BadStrat i) a k c b d = inr b
build_fault g (IdNotConstant i) a k c b d = inr d
build_fault g NoMemory a k c b d = inl refl

-- want of memory comes first
memory_first : (c : Option ℕ) → comes_first c NoMemory ≡ true
memory_first None = refl
memory_first (Some i) = refl

-- the fault that is told is one of the declarations, or want of memory
pub told_fault : (g : Given) (c : Option ℕ) (f told : SigFault)
    → (comes_first c f ≡ true → told ≡ f)
    → (comes_first c f ≡ false → (i : ℕ) × (c ≡ Some i) × (told ≡ AttrConflict i))
    → (f ≡ NoMemory) ⊎ IsFaultOf g f → (told ≡ NoMemory) ⊎ IsDeclarationFault g c told
told_fault g c f told a b (inl n) = inl (a (subst (λ f. comes_first c f ≡ true) (sym n) (memory_first c)) ∙ n)
told_fault g c f told a b (inr h) = by (comes_first c f) refl
  where
    by : (v : Bool) → comes_first c f ≡ v → (told ≡ NoMemory) ⊎ IsDeclarationFault g c told
    by true e = inr (subst (λ t. IsDeclarationFault g c t) (sym (a e)) (declared_wrong f h e))
    by false e = inr (subst (λ t. IsDeclarationFault g c t) (sym (b e).2) (two_values_before (b e).0 f (b e).1 h e))

-- its text
pub told_refusal : (g : Given) (c : Option ℕ) (told : SigFault) (r : SignFault)
    → IfRefused r (λ text. text ≡ declaration_text g.declarations told) → (told ≡ NoMemory → r ≡ NoMemoryOfSign)
    → (told ≡ NoMemory) ⊎ IsDeclarationFault g c told → IfRefused r (IsDeclarationRefusal g c)
told_refusal g c told r e m (inl n) = subst (λ r. IfRefused r (IsDeclarationRefusal g c)) (sym (m n)) tt
told_refusal g c told r e m (inr h) = refused_by (λ text w. record { fault = told; first = h; text = w }) r e

-- the text of two values where nothing else is at fault
pub alone_refusal : (g : Given) (c : Option ℕ) (i : ℕ) (r : SignFault) → c ≡ Some i → IsFaultless g g.declarations
    → IfRefused r (λ text. text ≡ declaration_text g.declarations (AttrConflict i)) → IfRefused r (IsDeclarationRefusal g c)
alone_refusal g c i r s none e = refused_by (λ text w. record { fault = AttrConflict i; first = two_values_alone i s none; text = w }) r e
