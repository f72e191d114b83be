-- Sorts and kinds: the order that subsort pairs give them.
use Rattle.std.specs.Prelude.{◌≡◌, ℕ, zero, suc, ◌+◌, ◌<◌, ◌≤◌, ◌==◌, nat_lt, min, max, if◌then◌else◌, List, [], ◌∷◌, ◌⊎◌, All, Contains}

-- What a poset is made from: how many sorts there are, which are the numbers below that, and the subsort pairs. The
-- pair (a, b) makes a a subsort of b.
pub record Hierarchy : Type 0 where
  pub sorts : ℕ
  pub pairs : List (ℕ × ℕ)

-- a finite chain of steps from one number to another, which may have no step
pub data Chain (Step : ℕ → ℕ → Type 0) : ℕ → ℕ → Type 0 where
  no_step : {a : ℕ} → Chain Step a a
  step : {a b c : ℕ} → Step a b → Chain Step b c → Chain Step a c

-- ---- chains of subsort pairs

-- one of the pairs leads from a to b
abbrev pub Leads : List (ℕ × ℕ) → ℕ → ℕ → Type 0
Leads pairs a b = Contains pairs (a, b)

-- a is below b: a chain of at least one pair leads from a to b
abbrev pub IsBelow : List (ℕ × ℕ) → ℕ → ℕ → Type 0
IsBelow pairs a b = (c : ℕ) × Leads pairs a c × Chain (Leads pairs) c b

-- a and b are on one cycle: each is below the other
abbrev pub AreOnCycle : List (ℕ × ℕ) → ℕ → ℕ → Type 0
AreOnCycle pairs a b = IsBelow pairs a b × IsBelow pairs b a

-- a and b are the least two sorts that are on one cycle, by the first and then by the second
pub record IsLeastCycle (pairs : List (ℕ × ℕ)) (a b : ℕ) : Type 0 where
  pub on_cycle : AreOnCycle pairs a b
  pub least : (c d : ℕ) → AreOnCycle pairs c d → (a < c) ⊎ ((a ≡ c) × (b ≤ d))

-- the pairs name only sorts below a number
abbrev pub IsWithin : List (ℕ × ℕ) → ℕ → Type 0
IsWithin pairs sorts = All (λ p. (p.0 < sorts) × (p.1 < sorts)) pairs

-- what a poset may be made from: the pairs name only sorts that are there, and no sort is on a cycle
pub record IsPoset (h : Hierarchy) : Type 0 where
  pub within : IsWithin h.pairs h.sorts
  pub acyclic : (a b : ℕ) → ¬ AreOnCycle h.pairs a b

-- ---- kinds

-- a pair joins a and b, in one direction or the other
abbrev pub Joins : List (ℕ × ℕ) → ℕ → ℕ → Type 0
Joins pairs a b = Leads pairs a b ⊎ Leads pairs b a

-- a and b are in one kind: a chain of pairs, each taken in either direction, joins them
abbrev pub AreJoined : List (ℕ × ℕ) → ℕ → ℕ → Type 0
AreJoined pairs a b = Chain (Joins pairs) a b

-- what first sort a kind has after the kinds with the first sorts x and y became one: the lesser of the two for these
-- two kinds, and for any other the one that it had, a
abbrev pub first_united : ℕ → ℕ → ℕ → ℕ
first_united x y a = if a == max x y then min x y else a

-- The first sort of the kind of a sort. With no pair each sort is a kind of its own, and one pair more makes one kind
-- of the kinds of its two ends.
unfoldable pub first_sort : List (ℕ × ℕ) → ℕ → ℕ
first_sort [] a = a
first_sort (p ∷ pairs) a = first_united (first_sort pairs p.0) (first_sort pairs p.1) (first_sort pairs a)

-- how many kinds have a first sort below a number
unfoldable pub kinds_before : List (ℕ × ℕ) → ℕ → ℕ
kinds_before pairs zero = 0
kinds_before pairs (suc n) = if first_sort pairs n == n then kinds_before pairs n + 1 else kinds_before pairs n

-- how many kinds there are
abbrev pub kinds : Hierarchy → ℕ
kinds h = kinds_before h.pairs h.sorts

-- The kind of a sort. The kinds are counted from 0 by their first sorts, and the j-th has the number sorts + j. A kind
-- is its own kind.
unfoldable pub kind_of : Hierarchy → ℕ → ℕ
kind_of h a = if nat_lt a h.sorts then h.sorts + kinds_before h.pairs (first_sort h.pairs a) else a

-- ---- the order on sorts and kinds

-- a is at or below b: a chain of pairs leads from a to b, or b is the kind of a
abbrev pub IsAtOrBelow : Hierarchy → ℕ → ℕ → Type 0
IsAtOrBelow h a b = Chain (Leads h.pairs) a b ⊎ (kind_of h a ≡ b)

-- m is the least of some sorts and kinds: it is one of them, and at or below each
pub record IsLeastOf (h : Hierarchy) (sorts : List ℕ) (m : ℕ) : Type 0 where
  pub member : Contains sorts m
  pub below_all : All (IsAtOrBelow h m) sorts
