-- What the readers of a poset tell, from what it keeps.
use Rattle.std.proofs.Common.{◌≡◌, ℕ, ◌+◌, ◌^◌, ◌<◌, ◌≤◌, ◌⊎◌, ◌↔◌, ⊎_elim, inl, inr, List, length, get_or, refl, subst, arith}
use Rattle.std.proofs.lemmas.List.{get_or_read}
use Rattle.std.proofs.lemmas.Bool.{cases_lt}
use Rattle.mau_poset.specs.Order.{Hierarchy, Chain, no_step, step, Leads, IsBelow, IsLeastCycle, IsWithin, IsPoset, kinds, kind_of, IsAtOrBelow}
use Rattle.mau_poset.specs.Table.{width_of, HasBit, IsLeastLoop}
use Rattle.mau_poset.specs.Closure.{IsClosureOf}
use Rattle.mau_poset.specs.Built.{IsBuilt}
use Rattle.mau_poset.proofs.Chains.{IsBelow-within, IsBelow-trans}
use Rattle.mau_poset.proofs.Orders.{kind_of-sort, kind_of-in_range, kinds_before-le}

-- ---- kind_of

pub kind_of-read : (h : Hierarchy) (table numbers : List ℕ) (count a x : ℕ) → IsBuilt h table numbers count → a < h.sorts → x ≡ get_or numbers a x → h.sorts + x ≡ kind_of h a
kind_of-read h table numbers count a x built is_sort read =
    let in_numbers : a < length numbers = rw built.len is_sort in
    let number : x ≡ get_or numbers a 0 = get_or_read numbers a x in_numbers read 0 in
    omega (arith, kind_of-sort h a is_sort, number, built.numbered a in_numbers)

pub kind_of-range : (h : Hierarchy) (table numbers : List ℕ) (count a x : ℕ) → IsBuilt h table numbers count → a < h.sorts → x ≡ get_or numbers a x → (h.sorts ≤ h.sorts + x) × (h.sorts + x < h.sorts + kinds h)
kind_of-range h table numbers count a x built is_sort read =
    omega (arith, kind_of-read h table numbers count a x built is_sort read, kind_of-in_range h a is_sort)

pub kind_of-small : (h : Hierarchy) (table numbers : List ℕ) (count a : ℕ) → IsBuilt h table numbers count → a < h.sorts → kind_of h a < 2 ^ 32
kind_of-small h table numbers count a built is_sort =
    omega (arith, kind_of-in_range h a is_sort, kinds_before-le h.pairs h.sorts, built.small)

-- ---- leq

-- the bit says whether a chain leads from a to b
pub IsBelow-read : (h : Hierarchy) (table numbers : List ℕ) (count a b : ℕ) → IsBuilt h table numbers count → a < h.sorts → b < h.sorts → HasBit (width_of h.sorts) table a b ↔ IsBelow h.pairs a b
IsBelow-read h table numbers count a b built a_in b_in =
    (built.closure.sound a b b_in, built.closure.complete a b a_in)

-- the three ways to be at or below
pub IsAtOrBelow-cases : (h : Hierarchy) (a b : ℕ) → IsAtOrBelow h a b → (a ≡ b) ⊎ ((kind_of h a ≡ b) ⊎ IsBelow h.pairs a b)
IsAtOrBelow-cases h a b (inl no_step) = inl refl
IsAtOrBelow-cases h a b (inl (step {b = c} s r)) = inr (inr (c, s, r))
IsAtOrBelow-cases h a b (inr own) = inr (inl own)

pub IsAtOrBelow-same : (h : Hierarchy) (a b : ℕ) → a ≡ b → IsAtOrBelow h a b
IsAtOrBelow-same h a b same = inl (subst (λ c. Chain (Leads h.pairs) a c) same no_step)

pub IsAtOrBelow-below : (h : Hierarchy) (a b : ℕ) → IsBelow h.pairs a b → IsAtOrBelow h a b
IsAtOrBelow-below h a b below = inl (step below.1 below.2)

-- ---- build

-- the least sort with its own bit is the least that is on a cycle
pub IsLeastCycle-loop : (pairs : List (ℕ × ℕ)) (n : ℕ) (table : List ℕ) (a : ℕ) → IsWithin pairs n → IsClosureOf pairs n table → IsLeastLoop n table a → IsLeastCycle pairs a a
IsLeastCycle-loop pairs n table a within closure loop = record {
  on_cycle = let own = closure.sound a a loop.within loop.loop in (own, own);
  least = λ c d cycle.
      let c_low = above c (IsBelow-trans pairs c d c cycle.0 cycle.1) in
      let d_low = above d (IsBelow-trans pairs d c d cycle.1 cycle.0) in
      ⊎_elim (λ (lt : a < c). inl lt) (λ (ge : c ≤ a). inr (omega arith, d_low)) (cases_lt a c);
}
  where
    above : (c : ℕ) → IsBelow pairs c c → a ≤ c
    above c own = ⊎_elim
        (λ (lt : c < a). absurd (loop.least c lt (closure.complete c c (IsBelow-within pairs n c c within own).0 own)))
        (λ (ge : a ≤ c). ge)
        (cases_lt c a)

pub IsPoset-no_loop : (h : Hierarchy) (table : List ℕ) → IsWithin h.pairs h.sorts → IsClosureOf h.pairs h.sorts table → ((a : ℕ) → a < h.sorts → ¬ HasBit (width_of h.sorts) table a a) → IsPoset h
IsPoset-no_loop h table within closure none = record {
  within = within;
  acyclic = λ a b cycle.
      let own = IsBelow-trans h.pairs a b a cycle.0 cycle.1 in
      let a_in = (IsBelow-within h.pairs h.sorts a a within own).0 in
      none a a_in (closure.complete a a a_in own);
}
