-- The next sub-list and the next contiguous part, computed: what the code does, in the shape in which it does it. That these are
-- the next ones is a law.
use Rattle.std.specs.Prelude.{◌≡◌, ℕ, ◌+◌, ◌<◌, ◌≤◌, List, [], ◌∷◌, ◌++◌, length, take, drop, slice_index_or, Option, Some, None}
use Rattle.std.specs.declared.cmp.Ordering.{Ordering}
use Rattle.std.specs.declared.cmp.Ordering.TheVariants.{Less, Equal, Greater}
use Rattle.std.specs.Cmp.Lexicographic.{slice_cmp}

-- a value for each answer of an order
abbrev pub choose : {B : Type 0} → Ordering → B → B → B → B
choose Less x y z = x
choose Equal x y z = y
choose Greater x y z = z

abbrev pub or_else : {B : Type 0} → Option B → Option B → Option B
or_else None o = o
or_else (Some x) o = Some x

module _ {A : Type 0} where
  abbrev pub after_front : List A → Option (List A) → Option (List A)
  after_front xs None = None
  after_front xs (Some ys) = Some (xs ++ ys)

  abbrev pub alone : Option A → Option (List A)
  alone None = None
  alone (Some z) = Some (z ∷ [])

  -- the front of a list of so many elements, with another element behind it
  abbrev pub replaced : List A → Option (ℕ × A) → Option (List A)
  replaced xs None = None
  replaced xs (Some p) = Some (take p.0 xs ++ p.1 ∷ [])

  -- so many elements from a place on
  abbrev pub cut : List A → Option (ℕ × ℕ) → Option (List A)
  cut ys None = None
  cut ys (Some p) = Some (take p.1 (drop p.0 ys))

  -- an element that was found, behind a front of so many elements, or else the best so far
  abbrev pub fallen : ℕ → Option (ℕ × A) → Option A → Option (ℕ × A)
  fallen depth best None = best
  fallen depth best (Some z) = Some (depth, z)

  -- ---- room

  abbrev pub HasRoom : List A → List A → Option (ℕ × A) → Type 0
  HasRoom last items None = Unit {0}
  HasRoom last items (Some p) = (p.0 ≤ length last) × (p.0 < length items)

  abbrev pub FitsIn : List A → Option (ℕ × ℕ) → Type 0
  FitsIn ys None = Unit {0}
  FitsIn ys (Some p) = p.0 + p.1 ≤ length ys

  -- ---- the next lists, where cmp is the order of elements

  module _ (cmp : A → A → Ordering) where
    -- the first element of ys above x
    abbrev pub first_above : A → List A → Option A
    first_above x [] = None
    first_above x (y ∷ ys) = choose (cmp x y) (Some y) (first_above x ys) (first_above x ys)

    -- above is the first element above the one before place i, among those from place i on; d is never meant
    abbrev pub IsAboveLast : A → List A → ℕ → Option A → Type 0
    IsAboveLast d items i above = (k : ℕ) → k + 1 ≡ i → above ≡ first_above (slice_index_or items k d) (drop i items)

    -- the next sub-list of ys behind xs
    abbrev pub next_sub_list : List A → List A → Option (List A)
    next_sub_list xs [] = None
    next_sub_list [] (y ∷ ys) = Some (y ∷ [])
    next_sub_list (x ∷ xs) (y ∷ ys) =
        choose (cmp x y)
        (Some (y ∷ []))
        (or_else (after_front (x ∷ []) (next_sub_list xs ys)) (alone (first_above x ys)))
        (next_sub_list (x ∷ xs) ys)

    -- the shortest front of ys behind xs
    abbrev pub next_front : List A → List A → Option (List A)
    next_front xs [] = None
    next_front [] (y ∷ ys) = Some (y ∷ [])
    next_front (x ∷ xs) (y ∷ ys) = choose (cmp x y) (Some (y ∷ [])) (after_front (y ∷ []) (next_front xs ys)) None

    abbrev pub least_of : Option (List A) → Option (List A) → Option (List A)
    least_of None o = o
    least_of (Some s) None = Some s
    least_of (Some s) (Some t) = choose (slice_cmp cmp s t) (Some s) (Some s) (Some t)

    -- the next contiguous part of ys behind xs
    abbrev pub next_part : List A → List A → Option (List A)
    next_part xs [] = None
    next_part xs (y ∷ ys) = least_of (next_front xs (y ∷ ys)) (next_part xs ys)
