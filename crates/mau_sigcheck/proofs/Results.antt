-- The sort that an operator gives its arguments: there is one at most.
use Rattle.std.proofs.Common.{◌≡◌, ℕ, ◌≤◌, inl, inr, List, [], ◌∷◌, length, get_or, Bool, Option, Some, None, refl, sym, ◌∙◌, ap, subst, arith}
use Rattle.std.specs.Prelude.{IfSome, IfNone, IsTrue, is_some, ◌↔◌}
use Rattle.mau_poset.specs.Order.{Hierarchy, IsPoset, kind_of}
use Rattle.mau_poset.proofs.Orders.{antisymmetric}
use Rattle.mau_signature.specs.declared.decl.Decl.{Decl}
use Rattle.mau_signature.specs.Signature.{IsLeastResult, AppliesNone, HasLeastResult, IsDeclaredResult, SignatureOf, declarations_at, result_of}
use Rattle.mau_sigcheck.specs.Accepted.{Gives, IsPreregularAt, GivesFromLeft, GivesFromRight, BracketsAgreeAt}

not_both : (h : Hierarchy) (ds : List Decl) (sorts : List ℕ) (r : ℕ) → IsLeastResult h ds sorts r → AppliesNone h ds sorts → ⊥
not_both h ds sorts r least none = none least.one.declaration least.one.declared least.one.applies

pub result_is_one : (h : Hierarchy) (ds : List Decl) (sorts : List ℕ) → IsPoset h → (r q : ℕ) → IsDeclaredResult h ds sorts r → IsDeclaredResult h ds sorts q → r ≡ q
result_is_one h ds sorts poset r q (inl a) (inl b) = antisymmetric h poset r q (a.least q b.one) (b.least r a.one)
result_is_one h ds sorts poset r q (inl a) (inr b) = absurd (not_both h ds sorts r a b.0)
result_is_one h ds sorts poset r q (inr a) (inl b) = absurd (not_both h ds sorts q b a.0)
result_is_one h ds sorts poset r q (inr a) (inr b) = sym a.1 ∙ b.1

pub least_from_result : (h : Hierarchy) (ds : List Decl) (sorts : List ℕ) (r : ℕ) → IsDeclaredResult h ds sorts r → HasLeastResult h ds sorts
least_from_result h ds sorts r (inl a) = inl (r, a)
least_from_result h ds sorts r (inr a) = inr a.0

pub result_from_least : (h : Hierarchy) (ds : List Decl) (sorts : List ℕ) → HasLeastResult h ds sorts → (r : ℕ) × IsDeclaredResult h ds sorts r
result_from_least h ds sorts (inl a) = (a.0, inl a.1)
result_from_least h ds sorts (inr a) = (kind_of h (result_of ds), inr (a, refl))

-- an answer that is right where there is one, and none only where there is none, is the only one
answer_is_result : (h : Hierarchy) (ds : List Decl) (sorts : List ℕ) → IsPoset h → (answer : Option ℕ)
    → IfSome answer (IsDeclaredResult h ds sorts) → IfNone answer (¬ HasLeastResult h ds sorts)
    → (r : ℕ) → IsDeclaredResult h ds sorts r → answer ≡ Some r
answer_is_result h ds sorts poset (Some x) value none r given = ap Some (result_is_one h ds sorts poset x r value given)
answer_is_result h ds sorts poset None value none r given = absurd (none (least_from_result h ds sorts r given))

pub answer_is_given : (s k : SignatureOf) (n : ℕ) (sorts : List ℕ) (answer : Option ℕ) → k ≡ s → IsPoset k.hierarchy
    → IfSome answer (Gives k n sorts) → IfNone answer (¬ HasLeastResult k.hierarchy (declarations_at k n) sorts)
    → (r : ℕ) → Gives s n sorts r → answer ≡ Some r
answer_is_given s k n sorts answer e poset value none r given =
    answer_is_result k.hierarchy (declarations_at k n) sorts poset answer value none r (subst (λ x. Gives x n sorts r) (sym e) given)

-- there is an answer exactly where there is a least result
pub some_exactly : (s : SignatureOf) (n : ℕ) (sorts : List ℕ) (answer : Option ℕ)
    → IfSome answer (Gives s n sorts) → ((r : ℕ) → Gives s n sorts r → answer ≡ Some r) → IsTrue (is_some answer) ↔ IsPreregularAt s n sorts
some_exactly s n sorts (Some x) value one = (λ _. least_from_result s.hierarchy (declarations_at s n) sorts x value, λ _. refl)
some_exactly s n sorts None value one = (
  λ e. cc,
  λ least. let r = result_from_least s.hierarchy (declarations_at s n) sorts least in let e = one r.0 r.1 in cc,
)

-- ---- three sorts

three : (sorts : List ℕ) → 3 ≤ length sorts → length sorts ≤ 3 → sorts ≡ get_or sorts 0 0 ∷ get_or sorts 1 0 ∷ get_or sorts 2 0 ∷ []
three [] le ge = absurd (omega arith)
three (a ∷ []) le ge = absurd (omega arith)
three (a ∷ b ∷ []) le ge = absurd (omega arith)
three (a ∷ b ∷ c ∷ []) le ge = refl
three (a ∷ b ∷ c ∷ d ∷ sorts) le ge = absurd (omega arith)

-- the two bracketings have one sort exactly where the two answers are one
pub one_exactly : (s : SignatureOf) (n : ℕ) (sorts : List ℕ) (left right : Option ℕ) (same : Bool) → 3 ≤ length sorts → length sorts ≤ 3
    → IfSome left (GivesFromLeft s n (get_or sorts 0 0) (get_or sorts 1 0) (get_or sorts 2 0))
    → ((r : ℕ) → GivesFromLeft s n (get_or sorts 0 0) (get_or sorts 1 0) (get_or sorts 2 0) r → left ≡ Some r)
    → IfSome right (GivesFromRight s n (get_or sorts 0 0) (get_or sorts 1 0) (get_or sorts 2 0))
    → ((r : ℕ) → GivesFromRight s n (get_or sorts 0 0) (get_or sorts 1 0) (get_or sorts 2 0) r → right ≡ Some r)
    → IsTrue same ↔ ((r : ℕ) × (left ≡ Some r) × (right ≡ Some r))
    → IsTrue same ↔ BracketsAgreeAt s n sorts
one_exactly s n sorts left right same at_least at_most left_value left_one right_value right_one is_same = (
  λ t. let r = is_same.0 t in
      subst (BracketsAgreeAt s n) (sym (three sorts at_least at_most))
      (r.0, value left _ r.0 left_value r.1, value right _ r.0 right_value r.2),
  λ agree. let r = subst (BracketsAgreeAt s n) (three sorts at_least at_most) agree in
      is_same.1 (r.0, left_one r.0 r.1, right_one r.0 r.2),
)
  where
    value : (answer : Option ℕ) (P : ℕ → Type 0) (r : ℕ) → IfSome answer P → answer ≡ Some r → P r
    value (Some x) P r p e = let k : x ≡ r = cc in subst P k p
    value None P r p e = cc
