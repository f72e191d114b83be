-- Accepted signatures: what the declarations of each operator have to meet, at all tuples of sorts and kinds.
use Rattle.std.specs.Prelude.{◌≡◌, ◌≢◌, ℕ, ◌+◌, ◌≤◌, ◌==◌, List, [], ◌∷◌, ◌⊎◌, true, Option, Some, None, map, if◌then◌else◌}
use Rattle.mau_poset.specs.Order.{Hierarchy, kind_of, IsAtOrBelow}
use Rattle.mau_terms.specs.Bare.{IsLawful}
use Rattle.mau_terms.specs.declared.theory.Identity.{Identity}
use Rattle.mau_terms.specs.declared.theory.Identity.TheVariants.{Const, Num}
use Rattle.mau_signature.specs.Signature.{SignatureOf, IsOperator, declarations_at, theory_at, arguments_of, result_of, terms_over, HasLeastResult, IsDeclaredResult}
use Rattle.mau_sigcheck.specs.declared.TheConstants.{MAX_TUPLES}
use Rattle.mau_sigcheck.specs.Tuples.{IsInKind, HoldsAtAll, tuples_of}

-- the kinds of the arguments of the operator n
abbrev pub argument_kinds : SignatureOf → ℕ → List ℕ
argument_kinds s n = map (kind_of s.hierarchy) (arguments_of (declarations_at s n))

-- the kind of the result of the operator n
abbrev pub result_kind : SignatureOf → ℕ → ℕ
result_kind s n = kind_of s.hierarchy (result_of (declarations_at s n))

-- the operator n has the sort r for arguments of these sorts
abbrev pub Gives : SignatureOf → ℕ → List ℕ → ℕ → Type 0
Gives s n sorts r = IsDeclaredResult s.hierarchy (declarations_at s n) sorts r

-- ---- least results

-- the declarations of the operator n that apply have a least result, or none applies
abbrev pub IsPreregularAt : SignatureOf → ℕ → List ℕ → Type 0
IsPreregularAt s n sorts = HasLeastResult s.hierarchy (declarations_at s n) sorts

-- so it is at each tuple of argument sorts, kinds included
abbrev pub IsPreregular : SignatureOf → ℕ → Type 0
IsPreregular s n = HoldsAtAll s.hierarchy (argument_kinds s n) (IsPreregularAt s n)

-- ---- sorts under an associative operator

-- f(f(a, b), c) has the sort r
pub record GivesFromLeft (s : SignatureOf) (n a b c r : ℕ) : Type 0 where
  pub inner : ℕ
  pub of_inner : Gives s n (a ∷ b ∷ []) inner
  pub of_whole : Gives s n (inner ∷ c ∷ []) r

-- f(a, f(b, c)) has the sort r
pub record GivesFromRight (s : SignatureOf) (n a b c r : ℕ) : Type 0 where
  pub inner : ℕ
  pub of_inner : Gives s n (b ∷ c ∷ []) inner
  pub of_whole : Gives s n (a ∷ inner ∷ []) r

-- both bracketings of three sorts have one sort
abbrev pub BracketsAgreeAt : SignatureOf → ℕ → List ℕ → Type 0
BracketsAgreeAt s n (a ∷ b ∷ c ∷ []) = (r : ℕ) × GivesFromLeft s n a b c r × GivesFromRight s n a b c r
BracketsAgreeAt s n _ = Unit {0}

-- the kinds of three terms under the operator n
abbrev pub triple_kinds : SignatureOf → ℕ → List ℕ
triple_kinds s n = result_kind s n ∷ result_kind s n ∷ result_kind s n ∷ []

-- both bracketings of every triple have one sort, if the operator n is associative
abbrev pub BracketsAgree : SignatureOf → ℕ → Type 0
BracketsAgree s n = (theory_at s n).assoc ≡ true → HoldsAtAll s.hierarchy (triple_kinds s n) (BracketsAgreeAt s n)

-- ---- sorts under an operator with an identity

-- a numeral has the sort r: 0 has the first of the two, and all others have the second
abbrev pub IsSortOfNumeral : Option (ℕ × ℕ) → ℕ → ℕ → Type 0
IsSortOfNumeral None k r = ⊥
IsSortOfNumeral (Some p) k r = (if k == 0 then p.0 else p.1) ≡ r

-- the identity has the sort r
abbrev pub IsSortOfIdentity : SignatureOf → Identity → ℕ → Type 0
IsSortOfIdentity s (Const e) r = Gives s e.0 [] r
IsSortOfIdentity s (Num k) r = IsSortOfNumeral s.numerals k r

abbrev pub IsStrictlyBelow : Hierarchy → ℕ → ℕ → Type 0
IsStrictlyBelow h a b = IsAtOrBelow h a b × (a ≢ b)

-- the operator n has an identity, and r is its sort
pub record HasIdentityOfSort (s : SignatureOf) (n r : ℕ) : Type 0 where
  pub identity : Identity
  pub has_identity : (theory_at s n).id ≡ Some identity
  pub of_identity : IsSortOfIdentity s identity r

-- the operator n gives these sorts a sort strictly below x
pub record GivesBelow (s : SignatureOf) (n : ℕ) (sorts : List ℕ) (x : ℕ) : Type 0 where
  pub lower : ℕ
  pub given : Gives s n sorts lower
  pub is_lower : IsStrictlyBelow s.hierarchy lower x

-- with an identity e of the sort r, f(e, x) or f(x, e) has a sort strictly below x, which is the sort of its other argument
abbrev pub Lowers : SignatureOf → ℕ → ℕ → ℕ → Type 0
Lowers s n r x = GivesBelow s n (r ∷ x ∷ []) x ⊎ GivesBelow s n (x ∷ r ∷ []) x

-- the identity of the operator n lowers the sort x
pub record LowersSort (s : SignatureOf) (n x : ℕ) : Type 0 where
  pub sort : ℕ
  pub of_identity : HasIdentityOfSort s n sort
  pub lowers : Lowers s n sort x

-- the identity, if there is one, lowers no sort of the operator's kind, and not the kind
abbrev pub KeepsSorts : SignatureOf → ℕ → Type 0
KeepsSorts s n = (x : ℕ) → IsInKind s.hierarchy (result_kind s n) x → ¬ LowersSort s n x

-- ---- accepted signatures

-- The operator n is accepted.
pub record IsAcceptedOperator (s : SignatureOf) (n : ℕ) : Type 0 where
  pub preregular : IsPreregular s n
  pub associative : BracketsAgree s n
  pub identity : KeepsSorts s n

-- Each operator is accepted. The arguments and the result of an associative operator are in one kind, and so are those of an
-- operator with an identity, and the identity with them; the two arguments of a commutative operator are in one kind.
pub record IsAccepted (s : SignatureOf) : Type 0 where
  pub operators : (n : ℕ) → IsOperator s n → IsAcceptedOperator s n
  pub kinds : IsLawful (terms_over s)

-- ---- the limit on tuples

-- the triples of a kind, if the operator n is associative
abbrev pub triples_of : SignatureOf → ℕ → ℕ
triples_of s n = if (theory_at s n).assoc then tuples_of s.hierarchy (triple_kinds s n) else 0

-- how many tuples and triples there are for the operator n
abbrev pub tuples_at : SignatureOf → ℕ → ℕ
tuples_at s n = tuples_of s.hierarchy (argument_kinds s n) + triples_of s n

abbrev pub HasFewTuples : SignatureOf → ℕ → Type 0
HasFewTuples s n = tuples_at s n ≤ MAX_TUPLES

-- no operator has more tuples than the limit
abbrev pub IsWithinLimit : SignatureOf → Type 0
IsWithinLimit s = (n : ℕ) → IsOperator s n → HasFewTuples s n
