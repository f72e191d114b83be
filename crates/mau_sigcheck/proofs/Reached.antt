-- Operators that are judged one after another.
use Rattle.std.proofs.Common.{◌≡◌, ℕ, ◌+◌, ◌<◌, ◌≤◌, ⊎_elim, length, sym, subst, arith}
use Rattle.std.proofs.lemmas.Bool.{cases_eq}
use Rattle.mau_terms.specs.declared.ids.OpId.{OpId}
use Rattle.mau_signature.specs.Signature.{SignatureOf, IsOperator}
use Rattle.mau_sigcheck.specs.declared.fault.CheckFault.{CheckFault}
use Rattle.mau_sigcheck.specs.declared.fault.CheckFault.TheVariants.{TooManyTuples, NotPreregular, NotAssociativeSorts, IdentityLowersSort, NoMemory}
use Rattle.mau_sigcheck.specs.Accepted.{IsAcceptedOperator, HasFewTuples}
use Rattle.mau_sigcheck.specs.Faults.{IsReached, IsFaultOf, HasTooManyTuples, IsNotPreregular, HasNotAssociativeSorts, HasLoweringIdentity, IfTooManyTuples, IfNotPreregular, IfNotAssociativeSorts, IfIdentityLowersSort}

-- a fact of the operators up to i, and of the next one
pub one_further : (s : SignatureOf) (P : ℕ → Type 0) (i : ℕ) → ((n : ℕ) → IsOperator s n → n ≤ i → P n) → P (i + 1) → (n : ℕ) → IsOperator s n → n ≤ i + 1 → P n
one_further s P i before here n op le = ⊎_elim
    (λ (e : n ≡ i + 1). subst P (sym e) here)
    (λ (ne : n ≡ i + 1 → ⊥). before n op (omega arith))
    (cases_eq n (i + 1))

-- the operator after i
abbrev pub next : ℕ → OpId
next i = record { 0 = i + 1 }

-- The first fault is that of the operator after i: k is what is judged, and all operators up to i passed.
module _ (s k : SignatureOf) (i ends : ℕ) (judged : k ≡ s) (counted : ends ≡ length s.declarations) (more : i < ends)
    (few : (n : ℕ) → IsOperator s n → n ≤ i → HasFewTuples s n) (accepted : (n : ℕ) → IsOperator s n → n ≤ i → IsAcceptedOperator s n) where
  is_reached : IsReached s (i + 1)
  is_reached = record {
    operator = (omega arith, omega arith);
    few = λ m op lt. few m op (omega arith);
    accepted = λ m op lt. accepted m op (omega arith);
  }

  pub too_many : (fault : CheckFault) → IsFaultOf k (next i) fault → IfTooManyTuples (λ o n. IsReached s o × HasTooManyTuples s o n) fault
  too_many (TooManyTuples o n) (e, p) = subst (λ x. IsReached s x.0 × HasTooManyTuples s x.0 n) (sym e) (is_reached, subst (λ x. HasTooManyTuples x (i + 1) n) judged p)
  too_many (NotPreregular o t) p = tt
  too_many (NotAssociativeSorts o t) p = tt
  too_many (IdentityLowersSort o x) p = tt
  too_many NoMemory p = tt

  pub not_preregular : (fault : CheckFault) → IsFaultOf k (next i) fault → IfNotPreregular (λ o t. IsReached s o × IsNotPreregular s o t) fault
  not_preregular (TooManyTuples o n) p = tt
  not_preregular (NotPreregular o t) (e, p) = subst (λ x. IsReached s x.0 × IsNotPreregular s x.0 t) (sym e) (is_reached, subst (λ x. IsNotPreregular x (i + 1) t) judged p)
  not_preregular (NotAssociativeSorts o t) p = tt
  not_preregular (IdentityLowersSort o x) p = tt
  not_preregular NoMemory p = tt

  pub not_associative : (fault : CheckFault) → IsFaultOf k (next i) fault → IfNotAssociativeSorts (λ o t. IsReached s o × HasNotAssociativeSorts s o t) fault
  not_associative (TooManyTuples o n) p = tt
  not_associative (NotPreregular o t) p = tt
  not_associative (NotAssociativeSorts o t) (e, p) = subst (λ x. IsReached s x.0 × HasNotAssociativeSorts s x.0 t) (sym e) (is_reached, subst (λ x. HasNotAssociativeSorts x (i + 1) t) judged p)
  not_associative (IdentityLowersSort o x) p = tt
  not_associative NoMemory p = tt

  pub lowers : (fault : CheckFault) → IsFaultOf k (next i) fault → IfIdentityLowersSort (λ o x. IsReached s o × HasLoweringIdentity s o x) fault
  lowers (TooManyTuples o n) p = tt
  lowers (NotPreregular o t) p = tt
  lowers (NotAssociativeSorts o t) p = tt
  lowers (IdentityLowersSort o x) (e, p) = subst (λ y. IsReached s y.0 × HasLoweringIdentity s y.0 x) (sym e) (is_reached, subst (λ y. HasLoweringIdentity y (i + 1) x) judged p)
  lowers NoMemory p = tt
