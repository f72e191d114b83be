-- Tuples of sorts and kinds: which there are, in which order they stand, and how many there are.
use Rattle.std.specs.Prelude.{◌≡◌, ℕ, ◌+◌, ◌*◌, ◌<◌, ◌≤◌, ◌==◌, List, [], ◌∷◌, ◌⊎◌, count_by}
use Rattle.std.specs.List.{range_with_len}
use Rattle.mau_poset.specs.Order.{Hierarchy, kind_of, kinds}
use Rattle.mau_signature.specs.Faults.{IsSort}

-- k is a kind
abbrev pub IsKind : Hierarchy → ℕ → Type 0
IsKind h k = (h.sorts ≤ k) × (k < h.sorts + kinds h)

-- a is a sort of the kind k, or that kind itself
abbrev pub IsInKind : Hierarchy → ℕ → ℕ → Type 0
IsInKind h k a = IsSort h a × (kind_of h a ≡ k)

-- the sorts are as many as the kinds, and each is in the kind of its place
abbrev pub AreInKinds : Hierarchy → List ℕ → List ℕ → Type 0
AreInKinds h [] [] = Unit {0}
AreInKinds h [] (a ∷ sorts) = ⊥
AreInKinds h (k ∷ ks) [] = ⊥
AreInKinds h (k ∷ ks) (a ∷ sorts) = IsInKind h k a × AreInKinds h ks sorts

-- a tuple comes before another one: at the first place where they differ, it has the lesser number
abbrev pub ComesBefore : List ℕ → List ℕ → Type 0
ComesBefore [] ys = ⊥
ComesBefore (a ∷ xs) [] = ⊥
ComesBefore (a ∷ xs) (b ∷ ys) = (a < b) ⊎ ((a ≡ b) × ComesBefore xs ys)

-- the fact P holds at each tuple of these kinds
abbrev pub HoldsAtAll : Hierarchy → List ℕ → (List ℕ → Type 0) → Type 0
HoldsAtAll h ks P = (sorts : List ℕ) → AreInKinds h ks sorts → P sorts

-- the first tuple of these kinds at which the fact P does not hold
pub record IsFirstWithout (h : Hierarchy) (ks : List ℕ) (P : List ℕ → Type 0) (sorts : List ℕ) : Type 0 where
  pub tuple : AreInKinds h ks sorts
  pub without : ¬ P sorts
  pub first : (others : List ℕ) → AreInKinds h ks others → ComesBefore others sorts → P others

-- ---- how many there are

-- how many sorts are in the kind k
abbrev pub sorts_in : Hierarchy → ℕ → ℕ
sorts_in h k = count_by (λ a. kind_of h a == k) (range_with_len 0 h.sorts)

-- how many tuples of these kinds there are: in each place stands a sort of the kind, or the kind itself
abbrev pub tuples_of : Hierarchy → List ℕ → ℕ
tuples_of h [] = 1
tuples_of h (k ∷ ks) = (sorts_in h k + 1) * tuples_of h ks
