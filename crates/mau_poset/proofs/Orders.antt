-- Kinds above their sorts, and the laws of the order.
use Rattle.std.proofs.Common.{◌≡◌, ℕ, zero, suc, ◌+◌, ◌-◌, ◌<◌, ◌≤◌, ◌↔◌, ⊎_elim, inl, inr, List, refl, sym, ap, subst, ◌∙◌, zero-add, arith}
use Rattle.std.proofs.lemmas.Bool.{cases_lt, cases_eq, cases_order, cond-true, cond-false, lt-ltb, le-ltb}
use Rattle.mau_poset.specs.Order.{Hierarchy, Chain, no_step, step, Leads, IsWithin, IsPoset, AreJoined, first_sort, kinds_before, kinds, kind_of, IsAtOrBelow}
use Rattle.mau_poset.specs.Laws.{IsFirst, NumbersKinds}
use Rattle.mau_poset.proofs.Chains.{Chain-trans, AreJoined-sym, Leads-within, Chain-within}
use Rattle.mau_poset.proofs.FirstSorts.{first_sort-le, first_sort-joined, first_sort-leads, first_sort-same, first_sort-least}
use Rattle.mau_poset.proofs.Numbering.{kinds_before-first, kinds_before-later, kinds_before-none, first_sort-first_sort}

-- ---- how many kinds there are below a sort

pub kinds_before-le : (pairs : List (ℕ × ℕ)) (n : ℕ) → kinds_before pairs n ≤ n
kinds_before-le pairs zero = omega (arith, kinds_before-none pairs)
kinds_before-le pairs (suc n) = ⊎_elim
    (λ (first : first_sort pairs n ≡ n). omega (arith, kinds_before-first pairs n first, kinds_before-le pairs n))
    (λ (later : first_sort pairs n ≡ n → ⊥). omega (arith, kinds_before-later pairs n later, kinds_before-le pairs n))
    (cases_eq (first_sort pairs n) n)

-- the kinds below a and those from a up to b
kinds_before-add : (pairs : List (ℕ × ℕ)) (a k : ℕ) → kinds_before pairs a ≤ kinds_before pairs (k + a)
kinds_before-add pairs a zero = rw zero-add (omega arith)
kinds_before-add pairs a (suc k) =
    let next : suc k + a ≡ suc (k + a) = omega arith in
    rw next (⊎_elim
    (λ (first : first_sort pairs (k + a) ≡ k + a). omega (arith, kinds_before-first pairs (k + a) first, kinds_before-add pairs a k))
    (λ (later : first_sort pairs (k + a) ≡ k + a → ⊥). omega (arith, kinds_before-later pairs (k + a) later, kinds_before-add pairs a k))
    (cases_eq (first_sort pairs (k + a)) (k + a)))

pub kinds_before-le_of_le : (pairs : List (ℕ × ℕ)) (a b : ℕ) → a ≤ b → kinds_before pairs a ≤ kinds_before pairs b
kinds_before-le_of_le pairs a b low =
    let e : (b - a) + a ≡ b = omega arith in
    subst (λ n. kinds_before pairs a ≤ kinds_before pairs n) e (kinds_before-add pairs a (b - a))

-- a first sort is counted behind itself
pub kinds_before-lt : (pairs : List (ℕ × ℕ)) (a b : ℕ) → first_sort pairs a ≡ a → a < b → kinds_before pairs a < kinds_before pairs b
kinds_before-lt pairs a b first low = omega (arith, kinds_before-first pairs a first, kinds_before-le_of_le pairs (suc a) b low)

-- each number below the count is that of a first sort
pub kinds_before-each : (pairs : List (ℕ × ℕ)) (n j : ℕ) → j < kinds_before pairs n → (a : ℕ) × (a < n) × (first_sort pairs a ≡ a) × (kinds_before pairs a ≡ j)
kinds_before-each pairs zero j below = absurd (omega (arith, kinds_before-none pairs))
kinds_before-each pairs (suc n) j below = ⊎_elim
    (λ (first : first_sort pairs n ≡ n). ⊎_elim
    (λ (last : j ≡ kinds_before pairs n). (n, omega arith, first, sym last))
    (λ (other : j ≡ kinds_before pairs n → ⊥).
    let earlier = kinds_before-each pairs n j (omega (arith, kinds_before-first pairs n first)) in
    (earlier.0, omega (arith, earlier.1), earlier.2, earlier.3))
    (cases_eq j (kinds_before pairs n)))
    (λ (later : first_sort pairs n ≡ n → ⊥).
    let earlier = kinds_before-each pairs n j (omega (arith, kinds_before-later pairs n later)) in
    (earlier.0, omega (arith, earlier.1), earlier.2, earlier.3))
    (cases_eq (first_sort pairs n) n)

-- ---- the kind of a sort and of a kind

pub kind_of-sort : (h : Hierarchy) (a : ℕ) → a < h.sorts → kind_of h a ≡ h.sorts + kinds_before h.pairs (first_sort h.pairs a)
unfolding kind_of
kind_of-sort h a is_sort = cond-true _ _ _ (lt-ltb a h.sorts is_sort)

pub kind_of-kind : (h : Hierarchy) (a : ℕ) → h.sorts ≤ a → kind_of h a ≡ a
unfolding kind_of
kind_of-kind h a is_kind = cond-false _ _ _ (le-ltb a h.sorts is_kind)

pub kind_of-above : (h : Hierarchy) (a : ℕ) → h.sorts ≤ kind_of h a
kind_of-above h a = ⊎_elim
    (λ (is_sort : a < h.sorts). omega (arith, kind_of-sort h a is_sort))
    (λ (is_kind : h.sorts ≤ a). omega (arith, kind_of-kind h a is_kind))
    (cases_lt a h.sorts)

-- a sort's kind is one of the kinds
pub kind_of-in_range : (h : Hierarchy) (a : ℕ) → a < h.sorts → kind_of h a < h.sorts + kinds h
kind_of-in_range h a is_sort =
    let first_in : first_sort h.pairs a < h.sorts = omega (arith, first_sort-le h.pairs a) in
    omega (arith, kind_of-sort h a is_sort, kinds_before-lt h.pairs (first_sort h.pairs a) h.sorts (first_sort-first_sort h.pairs a) first_in)

-- a chain stays in its kind
pub kind_of-chain : (h : Hierarchy) → IsWithin h.pairs h.sorts → {a b : ℕ} → Chain (Leads h.pairs) a b → kind_of h a ≡ kind_of h b
kind_of-chain h within no_step = refl
kind_of-chain h within {a} (step {b = c} s r) =
    let ends = Leads-within h.pairs h.sorts a c within s in
    kind_of-sort h a ends.0 ∙ ap (λ f. h.sorts + kinds_before h.pairs f) (first_sort-leads h.pairs a c s) ∙ sym (kind_of-sort h c ends.1) ∙ kind_of-chain h within r

-- no pair leads from a kind
pub Chain-kind : (h : Hierarchy) → IsWithin h.pairs h.sorts → {a b : ℕ} → Chain (Leads h.pairs) a b → h.sorts ≤ a → a ≡ b
Chain-kind h within no_step is_kind = refl
Chain-kind h within {a} (step {b = c} s r) is_kind =
    absurd (omega (arith, (Leads-within h.pairs h.sorts a c within s).0))

-- ---- the laws

pub reflexive : (h : Hierarchy) (a : ℕ) → IsAtOrBelow h a a
reflexive h a = inl no_step

pub transitive : (h : Hierarchy) → IsWithin h.pairs h.sorts → (a b c : ℕ) → IsAtOrBelow h a b → IsAtOrBelow h b c → IsAtOrBelow h a c
transitive h within a b c (inl p) (inl q) = inl (Chain-trans p q)
transitive h within a b c (inl p) (inr q) = inr (kind_of-chain h within p ∙ q)
transitive h within a b c (inr p) (inl q) =
    inr (p ∙ Chain-kind h within q (omega (arith, kind_of-above h a)))
transitive h within a b c (inr p) (inr q) =
    inr (p ∙ sym (kind_of-kind h b (omega (arith, kind_of-above h a))) ∙ q)

-- two chains in a ring are none
both_ways : (h : Hierarchy) → IsPoset h → (a b : ℕ) → Chain (Leads h.pairs) a b → Chain (Leads h.pairs) b a → a ≡ b
both_ways h poset a b no_step q = refl
both_ways h poset a b (step {b = c} s r) no_step = refl
both_ways h poset a b (step {b = c} s r) (step {b = d} t q) = absurd (poset.acyclic a b ((c, s, r), (d, t, q)))

pub antisymmetric : (h : Hierarchy) → IsPoset h → (a b : ℕ) → IsAtOrBelow h a b → IsAtOrBelow h b a → a ≡ b
antisymmetric h poset a b (inl p) (inl q) = both_ways h poset a b p q
antisymmetric h poset a b (inl p) (inr q) =
    Chain-kind h poset.within p (omega (arith, kind_of-above h b))
antisymmetric h poset a b (inr p) (inl q) =
    sym (Chain-kind h poset.within q (omega (arith, kind_of-above h a)))
antisymmetric h poset a b (inr p) (inr q) =
    sym (sym (kind_of-kind h b (omega (arith, kind_of-above h a))) ∙ q)

pub one_kind : (h : Hierarchy) → IsWithin h.pairs h.sorts → (a k : ℕ) → a < h.sorts → h.sorts ≤ k → IsAtOrBelow h a k ↔ (k ≡ kind_of h a)
one_kind h within a k is_sort is_kind = (
  ⊎_elim
      (λ chain. absurd (omega (arith, Chain-within h.pairs h.sorts within chain is_sort)))
      (λ own. sym own),
  λ own. inr (sym own),
)

pub joined_sorts : (h : Hierarchy) (a b : ℕ) → a < h.sorts → b < h.sorts → (kind_of h a ≡ kind_of h b) ↔ AreJoined h.pairs a b
joined_sorts h a b a_in b_in =
    let firsts = kinds_before-lt h.pairs in
    let one = first_sort-first_sort h.pairs a in
    let other = first_sort-first_sort h.pairs b in (
      λ same. ⊎_elim
          (λ (e : first_sort h.pairs a ≡ first_sort h.pairs b). Chain-trans (rw e at (first_sort-joined h.pairs a)) (AreJoined-sym h.pairs (first_sort-joined h.pairs b)))
          (⊎_elim
          (λ (lt : first_sort h.pairs a < first_sort h.pairs b). absurd (omega (arith, firsts _ _ one lt, kind_of-sort h a a_in, kind_of-sort h b b_in)))
          (λ (gt : first_sort h.pairs b < first_sort h.pairs a). absurd (omega (arith, firsts _ _ other gt, kind_of-sort h a a_in, kind_of-sort h b b_in))))
          (cases_order (first_sort h.pairs a) (first_sort h.pairs b)),
      λ joined. kind_of-sort h a a_in ∙ ap (λ f. h.sorts + kinds_before h.pairs f) (first_sort-same h.pairs joined) ∙ sym (kind_of-sort h b b_in),
    )

-- the first of a kind is its own first sort
pub IsFirst-own : (h : Hierarchy) (a : ℕ) → IsFirst h a → first_sort h.pairs a ≡ a
IsFirst-own h a first = omega (arith, first_sort-le h.pairs a, first.1 _ (first_sort-joined h.pairs a))

pub kind_of-first : (h : Hierarchy) (a : ℕ) → IsFirst h a → kind_of h a ≡ h.sorts + kinds_before h.pairs a
kind_of-first h a first =
    kind_of-sort h a first.0 ∙ ap (λ f. h.sorts + kinds_before h.pairs f) (IsFirst-own h a first)

pub numbers_kinds : (h : Hierarchy) → NumbersKinds h
numbers_kinds h = record {
  in_range = λ a is_sort. (kind_of-above h a, kind_of-in_range h a is_sort);
  each = λ k from_sorts below.
      let found = kinds_before-each h.pairs h.sorts (k - h.sorts) (omega arith) in
      let first : IsFirst h found.0 = (found.1, λ b joined. omega (arith, first_sort-least h.pairs joined, found.2)) in
      (found.0, first, omega (arith, kind_of-first h found.0 first, found.3));
  in_order = λ a b a_first b_first lt.
      omega (arith, kind_of-first h a a_first, kind_of-first h b b_first, kinds_before-lt h.pairs a b (IsFirst-own h a a_first) lt);
}
