-- A refusal names the fault that was found.
use Rattle.std.proofs.Common.{◌≡◌, ℕ, List, Result, Ok, Err, sym, ◌∙◌, subst}
use Rattle.std.specs.Prelude.{IfOk, IfErr}
use Rattle.mau_signature.specs.Signature.{SignatureOf}
use Rattle.mau_sigcheck.specs.declared.fault.CheckFault.{CheckFault}
use Rattle.mau_sigcheck.specs.declared.fault.CheckFault.TheVariants.{TooManyTuples, NotPreregular, NotAssociativeSorts, IdentityLowersSort, NoMemory as NoMemoryOfCheck}
use Rattle.mau_sigcheck.specs.Faults.{IsReached, HasTooManyTuples, IsNotPreregular, HasNotAssociativeSorts, HasLoweringIdentity, IfTooManyTuples, IfNotPreregular, IfNotAssociativeSorts, IfIdentityLowersSort, IsFirstFaultOf}
use Rattle.mau_signing.specs.declared.fault.SignFault.{SignFault}
use Rattle.mau_signing.specs.declared.fault.SignFault.TheVariants.{Refused, NoMemory as NoMemoryOfSign}
use Rattle.mau_signing.specs.Refusals.{IsNamed, IfRefused}

module _ (s : SignatureOf) where
  -- the cause of a fault that is none of memory
  pub operator_fault : (f : CheckFault) → IsNamed f
      → IfTooManyTuples (λ op n. IsReached s op × HasTooManyTuples s op n) f
      → IfNotPreregular (λ op tuple. IsReached s op × IsNotPreregular s op tuple) f
      → IfNotAssociativeSorts (λ op triple. IsReached s op × HasNotAssociativeSorts s op triple) f
      → IfIdentityLowersSort (λ op sort. IsReached s op × HasLoweringIdentity s op sort) f → IsFirstFaultOf s f
  operator_fault (TooManyTuples op n) i a b c d = a
  operator_fault (NotPreregular op tuple) i a b c d = b
  operator_fault (NotAssociativeSorts op triple) i a b c d = c
  operator_fault (IdentityLowersSort op sort) i a b c d = d
  operator_fault NoMemoryOfCheck i a b c d = absurd i

-- a refusal by one fact is one by what follows from it
pub refused_by : {P Q : List ℕ → Type 0} → ((text : List ℕ) → P text → Q text) → (fault : SignFault) → IfRefused fault P → IfRefused fault Q
refused_by f (Refused text) h = f _ h
refused_by f NoMemoryOfSign h = tt

-- a fault with a text that names what was found
pub with_text_by : {V E N : Type 0} {P : List ℕ → Type 0} (items : V → List ℕ) (expected : List ℕ) (text : Result V E) (fault : SignFault)
    → IfOk text (λ b. IfRefused fault (λ t. t ≡ items b)) → IfErr text (λ e. fault ≡ NoMemoryOfSign)
    → IfOk text (λ b. items b ≡ expected) → IfOk text (λ b. N) → (N → (t : List ℕ) → t ≡ expected → P t) → IfRefused fault P
with_text_by items expected (Ok b) fault t m x n f = refused_by (λ w h. f n w (h ∙ x)) fault t
with_text_by {P = P} items expected (Err e) fault t m x n f = subst (λ fault. IfRefused fault P) (sym m) tt
