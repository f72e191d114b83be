-- The least value of a kind behind another one, in an order of values at each place.
use Rattle.std.specs.Prelude.{◌≡◌, ℕ, Option, Some, None, ◌⊎◌}
use Rattle.std.specs.declared.cmp.Ordering.{Ordering}
use Rattle.std.specs.declared.cmp.Ordering.TheVariants.{Less, Equal, Greater}

module _ {V : Type 0} (cmp : ℕ → V → V → Ordering) where
  -- the value stands behind the last value
  abbrev pub IsValueBehind : ℕ → Option V → V → Type 0
  IsValueBehind k None y = Unit {0}
  IsValueBehind k (Some x) y = cmp k x y ≡ Less

  -- w is the least value of a kind behind `after`, or stands before it, or none of the kind does
  abbrev pub IsLeastOrNone : (V → Type 0) → ℕ → Option V → Option V → Type 0
  IsLeastOrNone Q k after None = (v : V) → Q v → IsValueBehind k after v → ⊥
  IsLeastOrNone Q k after (Some w) = IsValueBehind k after w × ((v : V) → Q v → IsValueBehind k after v → (cmp k w v ≡ Less) ⊎ (w ≡ v))

  abbrev pub by_answer : {B : Type 0} → Ordering → B → B → B
  by_answer Less x y = x
  by_answer Equal x y = x
  by_answer Greater x y = y

  abbrev pub first_of : ℕ → Option V → Option V → Option V
  first_of k None o = o
  first_of k (Some v) None = Some v
  first_of k (Some v) (Some w) = by_answer (cmp k v w) (Some v) (Some w)
