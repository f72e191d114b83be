-- What a check keeps, and what it asks of an operator at one tuple.
use Rattle.std.specs.Prelude.{◌≡◌, ℕ, ◌+◌, ◌<◌, ◌==◌, List, Vec, length, filter, slice_index_or}
use Rattle.std.specs.List.{range_with_len}
use Rattle.mau_poset.specs.Order.{Hierarchy, IsPoset, kinds, kind_of}
use Rattle.mau_terms.specs.Bare.{IsLawful}
use Rattle.mau_terms.specs.declared.theory.Identity.{Identity}
use Rattle.mau_terms.specs.declared.theory.Identity.TheVariants.{Const, Num}
use Rattle.mau_signature.specs.Signature.{SignatureOf, IsOperator, terms_over}
use Rattle.mau_sigcheck.specs.declared.demand.Demand.{Demand}
use Rattle.mau_sigcheck.specs.declared.demand.Demand.TheVariants.{LeastResult, OneBracketing}
use Rattle.mau_sigcheck.specs.Tuples.{IsInKind}
use Rattle.mau_sigcheck.specs.Accepted.{IsPreregularAt, BracketsAgreeAt, result_kind, Lowers}

-- the operator n meets the demand at a tuple
abbrev pub Meets : SignatureOf → ℕ → Demand → List ℕ → Type 0
Meets s n LeastResult sorts = IsPreregularAt s n sorts
Meets s n OneBracketing sorts = BracketsAgreeAt s n sorts

-- those of the kind k that have a number below n
abbrev pub members_below : Hierarchy → ℕ → ℕ → List ℕ
members_below h n k = filter (λ a. kind_of h a == k) (range_with_len 0 n)

-- the sorts of the kind k in their order, and then the kind itself
abbrev pub members_of : Hierarchy → ℕ → List ℕ
members_of h k = members_below h (h.sorts + kinds h) k

-- there is a list for each kind, and it has the members with a number below n
pub record HasMembersBelow {Z : Type 0} (h : Hierarchy) (n : ℕ) (lists : List (Vec ℕ Z)) : Type 0 where
  pub len : length lists ≡ kinds h
  pub each : (j : ℕ) (d : Vec ℕ Z) → j < kinds h → (slice_index_or lists j d).items ≡ members_below h n (h.sorts + j)

-- a signature, with the members of each kind
pub record IsChecker {Z : Type 0} (s : SignatureOf) (lists : List (Vec ℕ Z)) : Type 0 where
  pub lawful : IsLawful (terms_over s)
  pub poset : IsPoset s.hierarchy
  pub members : HasMembersBelow s.hierarchy (s.hierarchy.sorts + kinds s.hierarchy) lists

-- an identity of the sort r lowers the sort x, and x is the first such in the operator's kind
pub record IsFirstLoweredBy (s : SignatureOf) (n r x : ℕ) : Type 0 where
  pub in_kind : IsInKind s.hierarchy (result_kind s n) x
  pub lowers : Lowers s n r x
  pub first : (y : ℕ) → IsInKind s.hierarchy (result_kind s n) y → y < x → ¬ Lowers s n r y

-- an identity that is a constant is an operator of the signature
abbrev pub IsIdentityOver : SignatureOf → Identity → Type 0
IsIdentityOver s (Const e) = IsOperator s e.0
IsIdentityOver s (Num n) = Unit {0}
