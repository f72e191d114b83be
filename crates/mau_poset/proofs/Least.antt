-- The least of a list, found by one run down and one look at all.
use Rattle.std.proofs.Common.{◌≡◌, ℕ, ◌+◌, ◌<◌, ◌⊎◌, ⊎_elim, List, length, get_or, take, All, Contains, Option, Some, None, subst, ◌∙◌}
use Rattle.std.specs.Option.{IfNone}
use Rattle.std.proofs.lemmas.List.{take_more}
use Rattle.std.proofs.lemmas.List.Elements.{All-contains, Contains-push_cases}
use Rattle.mau_poset.specs.Order.{Hierarchy, IsPoset, IsAtOrBelow, IsLeastOf}
use Rattle.mau_poset.proofs.Orders.{reflexive, transitive, antisymmetric}

-- low is at or below the least of the list, if it is among the first i
pub record IsLowest (h : Hierarchy) (sorts : List ℕ) (i low : ℕ) : Type 0 where
  pub member : Contains sorts low
  pub lowest : (m : ℕ) → IsLeastOf h sorts m → Contains (take i sorts) m → IsAtOrBelow h low m

one_more : (sorts : List ℕ) (i m : ℕ) → i < length sorts → Contains (take (i + 1) sorts) m → Contains (take i sorts) m ⊎ (get_or sorts i 0 ≡ m)
one_more sorts i m lt c = Contains-push_cases (take i sorts) (get_or sorts i 0) m (rw (take_more sorts i 0 lt) at c)

pub IsLowest-takes : (h : Hierarchy) (sorts : List ℕ) (i low s : ℕ) → IsPoset h → i < length sorts → s ≡ get_or sorts i 0 → Contains sorts s → IsLowest h sorts i low → IsAtOrBelow h s low → IsLowest h sorts (i + 1) s
IsLowest-takes h sorts i low s poset lt read among so_far below = record {
  member = among;
  lowest = λ m least c. ⊎_elim
      (λ earlier. transitive h poset.within s low m below (so_far.lowest m least earlier))
      (λ here. subst (λ k. IsAtOrBelow h s k) here (rw (← read) (reflexive h s)))
      (one_more sorts i m lt c);
}

pub IsLowest-keeps : (h : Hierarchy) (sorts : List ℕ) (i low s : ℕ) → i < length sorts → s ≡ get_or sorts i 0 → IsLowest h sorts i low → ¬ IsAtOrBelow h s low → IsLowest h sorts (i + 1) low
IsLowest-keeps h sorts i low s lt read so_far above = record {
  member = so_far.member;
  lowest = λ m least c. ⊎_elim
      (λ earlier. so_far.lowest m least earlier)
      (λ (here : get_or sorts i 0 ≡ m). absurd (above (rw (read ∙ here) (All-contains (IsAtOrBelow h m) sorts low least.below_all so_far.member))))
      (one_more sorts i m lt c);
}

-- with a least one, the lowest is at or below all
pub IsLowest-all : (h : Hierarchy) (sorts : List ℕ) (low m : ℕ) → IsPoset h → IsAtOrBelow h low m → IsLeastOf h sorts m → All (IsAtOrBelow h low) sorts
IsLowest-all h sorts low m poset below least k d lt = transitive h poset.within low m _ below (least.below_all k d lt)

pub IfNone-any : {X : Type 0} {P : Type 0} (r : Option X) → P → IfNone r P
IfNone-any None p = p
IfNone-any (Some x) p = tt

-- a list has one least member
pub one_least : (h : Hierarchy) → IsPoset h → (sorts : List ℕ) (m n : ℕ) → IsLeastOf h sorts m → IsLeastOf h sorts n → m ≡ n
one_least h poset sorts m n p q =
    antisymmetric h poset m n (All-contains (IsAtOrBelow h m) sorts n p.below_all q.member) (All-contains (IsAtOrBelow h n) sorts m q.below_all p.member)
