-- Declarations sign in one way.
use Rattle.std.proofs.Common.{◌≡◌, ℕ, ◌<◌, ◌≤◌, ◌⊎◌, inl, inr, List, Bool, true, false, Option, Some, None, Result, Ok, Err, refl, sym, ◌∙◌, ap, ap₂, subst, arith}
use Rattle.mau_poset.specs.Order.{IsLeastCycle}
use Rattle.mau_signature.specs.declared.fault.SigFault.{SigFault}
use Rattle.mau_signature.specs.declared.fault.SigFault.TheVariants.{AttrConflict}
use Rattle.mau_signature.specs.Faults.{Given, IsFaultless}
use Rattle.mau_signature.specs.Signature.{SignatureOf}
use Rattle.mau_signature.proofs.FirstFaults.{faults_are_one, faultless_have_none}
use Rattle.mau_sigcheck.proofs.OneFault.{faults_once, accepted_no_fault}
use Rattle.mau_signing.specs.Signed.{cycle_text, declaration_text, operator_fault_text, comes_first, IsDeclarationFault, declared_wrong, two_values_before, two_values_alone, signature_over, SignatureRead, on_cycle, declaration_at_fault, operator_at_fault, signature_read}
use Rattle.mau_declare.proofs.Once.{yes_no, some_none, some_once}

least_cycle_once : (pairs : List (ℕ × ℕ)) (a b c d : ℕ) → IsLeastCycle pairs a b → IsLeastCycle pairs c d → (a ≡ c) × (b ≡ d)
least_cycle_once pairs a b c d f g = by (f.least c d g.on_cycle) (g.least a b f.on_cycle)
  where
    by : (a < c) ⊎ ((a ≡ c) × (b ≤ d)) → (c < a) ⊎ ((c ≡ a) × (d ≤ b)) → (a ≡ c) × (b ≡ d)
    by (inl h) (inl k) = absurd (omega (arith, h, k))
    by (inl h) (inr k) = absurd (omega (arith, h, k.0))
    by (inr h) (inl k) = absurd (omega (arith, h.0, k))
    by (inr h) (inr k) = (h.0, omega (arith, h.1, k.1))

-- ---- faults of declarations

module _ (g : Given) (c : Option ℕ) where
  -- a fault does not come both before and behind two values
  not_both : (f f' : SigFault) → f ≡ f' → comes_first c f ≡ true → comes_first c f' ≡ false → ⊥
  not_both f f' e t n = yes_no (comes_first c f) t (subst (λ f. comes_first c f ≡ false) (sym e) n)

  pub declaration_fault_once : {f f' : SigFault} → IsDeclarationFault g c f → IsDeclarationFault g c f' → f ≡ f'
  declaration_fault_once (declared_wrong f h e) (declared_wrong f' h' e') = faults_are_one g f f' h h'
  declaration_fault_once (declared_wrong f h e) (two_values_before i' f' s' h' e') = absurd (not_both f f' (faults_are_one g f f' h h') e e')
  declaration_fault_once (declared_wrong f h e) (two_values_alone i' s' n') = absurd (faultless_have_none g f n' h)
  declaration_fault_once (two_values_before i f s h e) (declared_wrong f' h' e') = absurd (not_both f' f (faults_are_one g f' f h' h) e' e)
  declaration_fault_once (two_values_before i f s h e) (two_values_before i' f' s' h' e') = ap AttrConflict (some_once s s')
  declaration_fault_once (two_values_before i f s h e) (two_values_alone i' s' n') = ap AttrConflict (some_once s s')
  declaration_fault_once (two_values_alone i s n) (declared_wrong f' h' e') = absurd (faultless_have_none g f' n h')
  declaration_fault_once (two_values_alone i s n) (two_values_before i' f' s' h' e') = ap AttrConflict (some_once s s')
  declaration_fault_once (two_values_alone i s n) (two_values_alone i' s' n') = ap AttrConflict (some_once s s')

  -- declarations without a fault, none of which gives an attribute two values, have none
  faultless_once : {f : SigFault} → IsFaultless g g.declarations → c ≡ None → IsDeclarationFault g c f → ⊥
  faultless_once n o (declared_wrong f h e) = faultless_have_none g f n h
  faultless_once n o (two_values_before i f s h e) = some_none s o
  faultless_once n o (two_values_alone i s m) = some_none s o

-- ---- signatures

module _ (names : List (List ℕ)) (g : Given) (c : Option ℕ) where
  pub signature_once : {r s : Result SignatureOf (List ℕ)} → SignatureRead names g c r → SignatureRead names g c s → r ≡ s
  signature_once (on_cycle a b l) (on_cycle a' b' l') = let m = least_cycle_once g.hierarchy.pairs a b a' b' l l' in ap₂ (λ a b. Err (cycle_text names a b)) m.0 m.1
  signature_once (on_cycle a b l) (declaration_at_fault f' p' x') = absurd (p'.acyclic a b l.on_cycle)
  signature_once (on_cycle a b l) (operator_at_fault f' p' n' o' x') = absurd (p'.acyclic a b l.on_cycle)
  signature_once (on_cycle a b l) (signature_read p' n' o' y' z') = absurd (p'.acyclic a b l.on_cycle)
  signature_once (declaration_at_fault f p x) (on_cycle a' b' l') = absurd (p.acyclic a' b' l'.on_cycle)
  signature_once (declaration_at_fault f p x) (declaration_at_fault f' p' x') = ap (λ f. Err (declaration_text g.declarations f)) (declaration_fault_once g c x x')
  signature_once (declaration_at_fault f p x) (operator_at_fault f' p' n' o' x') = absurd (faultless_once g c n' o' x)
  signature_once (declaration_at_fault f p x) (signature_read p' n' o' y' z') = absurd (faultless_once g c n' o' x)
  signature_once (operator_at_fault f p n o x) (on_cycle a' b' l') = absurd (p.acyclic a' b' l'.on_cycle)
  signature_once (operator_at_fault f p n o x) (declaration_at_fault f' p' x') = absurd (faultless_once g c n o x')
  signature_once (operator_at_fault f p n o x) (operator_at_fault f' p' n' o' x') = ap (λ f. Err (operator_fault_text names (signature_over g) f)) (faults_once (signature_over g) f f' x x')
  signature_once (operator_at_fault f p n o x) (signature_read p' n' o' y' z') = absurd (accepted_no_fault (signature_over g) f y' z' x)
  signature_once (signature_read p n o y z) (on_cycle a' b' l') = absurd (p.acyclic a' b' l'.on_cycle)
  signature_once (signature_read p n o y z) (declaration_at_fault f' p' x') = absurd (faultless_once g c n o x')
  signature_once (signature_read p n o y z) (operator_at_fault f' p' n' o' x') = absurd (accepted_no_fault (signature_over g) f' y z x')
  signature_once (signature_read p n o y z) (signature_read p' n' o' y' z') = refl

  -- a signature that is read is the one over what is given
  pub signature_is : {s : SignatureOf} → SignatureRead names g c (Ok s) → s ≡ signature_over g
  signature_is (signature_read p n o y z) = refl
