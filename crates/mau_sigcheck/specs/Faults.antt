-- Why a signature is refused: the first operator that is not accepted, and its first fault.
use Rattle.std.specs.Prelude.{◌≡◌, ℕ, ◌<◌, List, true, min}
use Rattle.mau_terms.specs.declared.ids.OpId.{OpId}
use Rattle.mau_signature.specs.Signature.{SignatureOf, IsOperator, theory_at}
use Rattle.mau_sigcheck.specs.declared.TheConstants.{MAX_TUPLES}
use Rattle.mau_sigcheck.specs.declared.fault.CheckFault.{CheckFault}
use Rattle.mau_sigcheck.specs.declared.fault.CheckFault.TheVariants.{TooManyTuples, NotPreregular, NotAssociativeSorts, IdentityLowersSort, NoMemory}
use Rattle.mau_sigcheck.specs.Tuples.{IsInKind, IsFirstWithout}
use Rattle.mau_sigcheck.specs.Accepted.{argument_kinds, triple_kinds, result_kind, IsPreregularAt, IsPreregular, BracketsAgreeAt, BracketsAgree, LowersSort, IsAcceptedOperator, tuples_at, HasFewTuples}

-- n is an operator, and all operators before it are accepted and have few tuples
pub record IsReached (s : SignatureOf) (n : ℕ) : Type 0 where
  pub operator : IsOperator s n
  pub few : (m : ℕ) → IsOperator s m → m < n → HasFewTuples s m
  pub accepted : (m : ℕ) → IsOperator s m → m < n → IsAcceptedOperator s m

-- the operator n has too many tuples: `count` of them, or more if that is the greatest number of 64 bits
pub record HasTooManyTuples (s : SignatureOf) (n count : ℕ) : Type 0 where
  pub over : MAX_TUPLES < tuples_at s n
  pub counted : count ≡ min (tuples_at s n) 18446744073709551615

-- the declarations of the operator n have no least result at a tuple, and it is the first such tuple
pub record IsNotPreregular (s : SignatureOf) (n : ℕ) (tuple : List ℕ) : Type 0 where
  pub few : HasFewTuples s n
  pub first : IsFirstWithout s.hierarchy (argument_kinds s n) (IsPreregularAt s n) tuple

-- the operator n is associative, and the two bracketings of a triple have not one sort; it is the first such triple
pub record IsFirstDisagreeing (s : SignatureOf) (n : ℕ) (triple : List ℕ) : Type 0 where
  pub associative : (theory_at s n).assoc ≡ true
  pub first : IsFirstWithout s.hierarchy (triple_kinds s n) (BracketsAgreeAt s n) triple

-- the two bracketings of a triple differ under the associative operator n, and it is the first such triple
pub record HasNotAssociativeSorts (s : SignatureOf) (n : ℕ) (triple : List ℕ) : Type 0 where
  pub few : HasFewTuples s n
  pub preregular : IsPreregular s n
  pub first : IsFirstDisagreeing s n triple

-- the identity of the operator n lowers the sort x, and x is the first such in the operator's kind
pub record IsFirstLowered (s : SignatureOf) (n x : ℕ) : Type 0 where
  pub in_kind : IsInKind s.hierarchy (result_kind s n) x
  pub lowers : LowersSort s n x
  pub first : (y : ℕ) → IsInKind s.hierarchy (result_kind s n) y → y < x → ¬ LowersSort s n y

-- the identity of the operator n lowers the sort x, the first such
pub record HasLoweringIdentity (s : SignatureOf) (n x : ℕ) : Type 0 where
  pub few : HasFewTuples s n
  pub preregular : IsPreregular s n
  pub associative : BracketsAgree s n
  pub first : IsFirstLowered s n x

-- the fault is one of the operator op: it names the operator, and holds of it
abbrev pub IsFaultOf : SignatureOf → OpId → CheckFault → Type 0
IsFaultOf s op (TooManyTuples o n) = (o ≡ op) × HasTooManyTuples s op.0 n
IsFaultOf s op (NotPreregular o tuple) = (o ≡ op) × IsNotPreregular s op.0 tuple
IsFaultOf s op (NotAssociativeSorts o triple) = (o ≡ op) × HasNotAssociativeSorts s op.0 triple
IsFaultOf s op (IdentityLowersSort o sort) = (o ≡ op) × HasLoweringIdentity s op.0 sort
IsFaultOf s op NoMemory = Unit {0}

-- the fault is the first of the first operator that is not accepted
abbrev pub IsFirstFaultOf : SignatureOf → CheckFault → Type 0
IsFirstFaultOf s (TooManyTuples op n) = IsReached s op.0 × HasTooManyTuples s op.0 n
IsFirstFaultOf s (NotPreregular op tuple) = IsReached s op.0 × IsNotPreregular s op.0 tuple
IsFirstFaultOf s (NotAssociativeSorts op triple) = IsReached s op.0 × HasNotAssociativeSorts s op.0 triple
IsFirstFaultOf s (IdentityLowersSort op sort) = IsReached s op.0 × HasLoweringIdentity s op.0 sort
IsFirstFaultOf s NoMemory = ⊥

-- ---- facts for one fault

abbrev pub IfTooManyTuples : (ℕ → ℕ → Type 0) → CheckFault → Type 0
IfTooManyTuples P (TooManyTuples op n) = P op.0 n
IfTooManyTuples P (NotPreregular op tuple) = Unit {0}
IfTooManyTuples P (NotAssociativeSorts op triple) = Unit {0}
IfTooManyTuples P (IdentityLowersSort op sort) = Unit {0}
IfTooManyTuples P NoMemory = Unit {0}

abbrev pub IfNotPreregular : (ℕ → List ℕ → Type 0) → CheckFault → Type 0
IfNotPreregular P (TooManyTuples op n) = Unit {0}
IfNotPreregular P (NotPreregular op tuple) = P op.0 tuple
IfNotPreregular P (NotAssociativeSorts op triple) = Unit {0}
IfNotPreregular P (IdentityLowersSort op sort) = Unit {0}
IfNotPreregular P NoMemory = Unit {0}

abbrev pub IfNotAssociativeSorts : (ℕ → List ℕ → Type 0) → CheckFault → Type 0
IfNotAssociativeSorts P (TooManyTuples op n) = Unit {0}
IfNotAssociativeSorts P (NotPreregular op tuple) = Unit {0}
IfNotAssociativeSorts P (NotAssociativeSorts op triple) = P op.0 triple
IfNotAssociativeSorts P (IdentityLowersSort op sort) = Unit {0}
IfNotAssociativeSorts P NoMemory = Unit {0}

abbrev pub IfIdentityLowersSort : (ℕ → ℕ → Type 0) → CheckFault → Type 0
IfIdentityLowersSort P (TooManyTuples op n) = Unit {0}
IfIdentityLowersSort P (NotPreregular op tuple) = Unit {0}
IfIdentityLowersSort P (NotAssociativeSorts op triple) = Unit {0}
IfIdentityLowersSort P (IdentityLowersSort op sort) = P op.0 sort
IfIdentityLowersSort P NoMemory = Unit {0}
