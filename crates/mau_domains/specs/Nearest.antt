-- The least of some values behind another one, and lists of values among which it is.
use Rattle.std.specs.Prelude.{◌≡◌, ◌⊎◌, ℕ, List, [], ◌∷◌, Option, Some, None, if◌then◌else◌}
use Rattle.std.specs.declared.cmp.Ordering.{Ordering}
use Rattle.std.specs.declared.cmp.Ordering.TheVariants.{Less}
use Rattle.std.specs.Ordering.{is_lt}
use Rattle.mau_terms.specs.Finite.{IsIn}
use Rattle.mau_domains.specs.Search.{IsValueBehind, first_of}

module _ {V : Type 0} (cmp : ℕ → V → V → Ordering) where
  -- y, where it stands behind the last value
  abbrev pub only_behind : ℕ → Option V → V → Option V
  only_behind k None y = Some y
  only_behind k (Some x) y = if is_lt (cmp k x y) then Some y else None

  -- the least of the best value so far and of those of vs that stand behind the last value
  abbrev pub nearest_of : ℕ → Option V → Option V → List V → Option V
  nearest_of k after best [] = best
  nearest_of k after best (v ∷ vs) = nearest_of k after (first_of cmp k best (only_behind k after v)) vs

  -- vs are values of a kind, and of each value of it behind the last value one of vs that is behind that too stands at or before it:
  -- so the least of the kind is among them
  pub record HoldsNext (Q : V → Type 0) (k : ℕ) (after : Option V) (vs : List V) : Type 0 where
    pub each : (w : V) → IsIn w vs → Q w
    pub least : (v : V) → Q v → IsValueBehind cmp k after v →
        (w : V) × IsIn w vs × IsValueBehind cmp k after w × ((cmp k w v ≡ Less) ⊎ (w ≡ v))
