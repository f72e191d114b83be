-- Sorts that an identity lowers.
use Rattle.std.proofs.Common.{◌≡◌, ℕ, ◌<◌, ◌≤◌, nat_lt, nat_le, List, length, get_or, Bool, true, Option, Some, None, sym, ◌∙◌, subst, arith}
use Rattle.std.specs.Prelude.{◌↔◌, IsTrue, IfSome, IfNone}
use Rattle.mau_terms.specs.declared.theory.Identity.{Identity}
use Rattle.mau_terms.specs.declared.theory.Identity.TheVariants.{Const, Num}
use Rattle.mau_terms.specs.Norm.{unit_tree}
use Rattle.mau_terms.specs.Bare.{IsLawful, IsBareIn}
use Rattle.std.proofs.lemmas.Bool.Decides.{nat_tests}
use Rattle.std.proofs.lemmas.Bool.{and_parts}
use Rattle.mau_signature.specs.Signature.{SignatureOf, theory_at, terms_over}
use Rattle.mau_sigcheck.specs.Tuples.{IsInKind}
use Rattle.mau_sigcheck.specs.Accepted.{Gives, IsStrictlyBelow, GivesBelow, Lowers, HasIdentityOfSort, IsSortOfIdentity, LowersSort, KeepsSorts, result_kind}
use Rattle.mau_sigcheck.specs.Faults.{IsFirstLowered}
use Rattle.mau_sigcheck.specs.Checking.{IsIdentityOver, IsFirstLoweredBy, members_of}
use Rattle.mau_sigcheck.proofs.MemberLemmas.{in_kind, there, place_below}

-- the operator gives a sort below x exactly where the sort that it gives is below x
pub below_exactly : (s : SignatureOf) (n : ℕ) (sorts : List ℕ) (x lower : ℕ) (below : Bool)
    → Gives s n sorts lower → ((r : ℕ) → Gives s n sorts r → Some lower ≡ Some r) → IsTrue below ↔ IsStrictlyBelow s.hierarchy lower x
    → IsTrue below ↔ GivesBelow s n sorts x
below_exactly s n sorts x lower below given one is_below = (
  λ t. record { lower = lower; given = given; is_lower = is_below.0 t },
  λ w. let e = one w.lower w.given in let k : w.lower ≡ lower = cc in is_below.1 (subst (λ r. IsStrictlyBelow s.hierarchy r x) k w.is_lower),
)

-- the sort of the identity is that of the one that the operator has
pub sort_of_identity : (s : SignatureOf) (n r : ℕ) (identity : Identity) (id : Option Identity) → id ≡ (theory_at s n).id → id ≡ Some identity → HasIdentityOfSort s n r → IsSortOfIdentity s identity r
sort_of_identity s n r identity id is_id is_some w =
    let k : w.identity ≡ identity = let a = w.has_identity in cc in
    subst (λ i. IsSortOfIdentity s i r) k w.of_identity

-- an identity of a lawful signature that is a constant is one of its operators
pub identity_there : (s : SignatureOf) (n : ℕ) (identity : Identity) (id : Option Identity) → IsLawful (terms_over s) → id ≡ (theory_at s n).id → id ≡ Some identity → IsIdentityOver s identity
identity_there s n identity id lawful is_id is_some =
    by identity ((terms_over s).result n) (lawful.unit_kinds n identity (sym is_id ∙ is_some)).1
  where
    by : (i : Identity) (k : ℕ) → IsBareIn (terms_over s) (unit_tree i) k → IsIdentityOver s i
    by (Const e) k bare =
        let there = and_parts (nat_lt 0 e.0) (nat_le e.0 (length s.declarations)) bare.0 in
        let above : nat_lt 0 e.0 ≡ true = there.0 in
        let below : nat_le e.0 (length s.declarations) ≡ true = there.1 in
        (grind (arith, nat_tests), grind (arith, nat_tests))
    by (Num m) k bare = tt

-- ---- the first that is lowered

module _ (s : SignatureOf) (n identity : ℕ) (ms : List ℕ) (are_members : ms ≡ members_of s.hierarchy (result_kind s n)) where
  pub none_lowered : (i : ℕ) → length ms ≤ i → ((j : ℕ) → j < i → ¬ Lowers s n identity (get_or ms j 0))
      → (x : ℕ) → IsInKind s.hierarchy (result_kind s n) x → ¬ Lowers s n identity x
  none_lowered i ends none x in_k = λ lowers.
      let w = there s.hierarchy (result_kind s n) ms are_members x in_k in
      none w.0 (let below : w.0 < length ms = w.1 in omega arith) (subst (Lowers s n identity) (sym w.2) lowers)

  pub first_at : (i : ℕ) → i < length ms → ((j : ℕ) → j < i → ¬ Lowers s n identity (get_or ms j 0)) → Lowers s n identity (get_or ms i 0)
      → IsFirstLoweredBy s n identity (get_or ms i 0)
  first_at i lt none lowers = record {
    in_kind = in_kind s.hierarchy (result_kind s n) ms are_members i lt;
    lowers = lowers;
    first = λ y in_k less lowered.
        let w = there s.hierarchy (result_kind s n) ms are_members y in_k in
        none w.0 (place_below s.hierarchy (result_kind s n) ms are_members w.0 i w.1 (subst (λ x. x < get_or ms i 0) (sym w.2) less)) (subst (Lowers s n identity) (sym w.2) lowered);
  }

-- ---- the sort of the identity

lowers_by : (s : SignatureOf) (n x r : ℕ) → ((q : ℕ) → HasIdentityOfSort s n q → Some r ≡ Some q) → LowersSort s n x → Lowers s n r x
lowers_by s n x r one l = let e = one l.sort l.of_identity in let k : l.sort ≡ r = cc in subst (λ q. Lowers s n q x) k l.lowers

pub first_by_identity : (s : SignatureOf) (n r : ℕ) (answer : Option ℕ) → HasIdentityOfSort s n r → ((q : ℕ) → HasIdentityOfSort s n q → Some r ≡ Some q)
    → IfSome answer (IsFirstLoweredBy s n r) → IfSome answer (IsFirstLowered s n)
first_by_identity s n r None has one found = found
first_by_identity s n r (Some x) has one found = record {
  in_kind = found.in_kind;
  lowers = record { sort = r; of_identity = has; lowers = found.lowers };
  first = λ y in_k less lowers. found.first y in_k less (lowers_by s n y r one lowers);
}

pub none_by_identity : (s : SignatureOf) (n r : ℕ) (answer : Option ℕ) → ((q : ℕ) → HasIdentityOfSort s n q → Some r ≡ Some q)
    → IfNone answer ((x : ℕ) → IsInKind s.hierarchy (result_kind s n) x → ¬ Lowers s n r x) → IfNone answer (KeepsSorts s n)
none_by_identity s n r None one none = λ x in_k lowers. none x in_k (lowers_by s n x r one lowers)
none_by_identity s n r (Some x) one none = none

pub none_without_identity : (s : SignatureOf) (n : ℕ) → ((q : ℕ) → HasIdentityOfSort s n q → None ≡ Some q) → KeepsSorts s n
none_without_identity s n none = λ x in_k lowers. let e = none lowers.sort lowers.of_identity in cc
