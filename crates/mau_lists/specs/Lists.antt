-- Sub-lists and contiguous parts of a list, the order of lists, and the next list of a kind in that order. All of it is said of
-- lists of any elements; crates above take trees for them.
use Rattle.std.specs.Prelude.{◌≡◌, ◌⊎◌, List, [], ◌∷◌, Option, Some, None}

module _ {A : Type 0} where
  -- ---- kinds of lists

  -- xs is ys without some elements. Where both stand in order, xs is a sub-multiset of ys.
  abbrev pub IsSubList : List A → List A → Type 0
  IsSubList [] ys = Unit {0}
  IsSubList (x ∷ xs) [] = ⊥
  IsSubList (x ∷ xs) (y ∷ ys) = ((x ≡ y) × IsSubList xs ys) ⊎ IsSubList (x ∷ xs) ys

  -- ys begins with xs
  abbrev pub IsFront : List A → List A → Type 0
  IsFront [] ys = Unit {0}
  IsFront (x ∷ xs) [] = ⊥
  IsFront (x ∷ xs) (y ∷ ys) = (x ≡ y) × IsFront xs ys

  -- xs is a contiguous part of ys: ys, or what is left of it behind some elements, begins with xs
  abbrev pub IsPart : List A → List A → Type 0
  IsPart xs [] = IsFront xs []
  IsPart xs (y ∷ ys) = IsFront xs (y ∷ ys) ⊎ IsPart xs ys

  -- xs is an element of a list of lists
  abbrev pub IsAmong : List A → List (List A) → Type 0
  IsAmong xs [] = ⊥
  IsAmong xs (s ∷ ss) = (xs ≡ s) ⊎ IsAmong xs ss

  -- ---- orders, where Less x y says that x comes before y

  module _ (Less : A → A → Type 0) where
    -- xs comes before ys in the order of lists: the first pair that differs decides, and a proper front comes first
    abbrev pub IsBelow : List A → List A → Type 0
    IsBelow [] [] = ⊥
    IsBelow [] (y ∷ ys) = Unit {0}
    IsBelow (x ∷ xs) [] = ⊥
    IsBelow (x ∷ xs) (y ∷ ys) = Less x y ⊎ ((x ≡ y) × IsBelow xs ys)

    -- xs comes before ys, or is ys
    abbrev pub IsUpto : List A → List A → Type 0
    IsUpto xs ys = IsBelow xs ys ⊎ (xs ≡ ys)

    -- no element comes before x
    abbrev pub AreFrom : A → List A → Type 0
    AreFrom x [] = Unit {0}
    AreFrom x (y ∷ ys) = (Less x y ⊎ (x ≡ y)) × AreFrom x ys

    -- no element comes before an earlier one; equal elements stand side by side
    abbrev pub IsAscending : List A → Type 0
    IsAscending [] = Unit {0}
    IsAscending (y ∷ ys) = AreFrom y ys × IsAscending ys

    -- ---- the next list of a kind, where Is says which lists are of that kind

    -- s is the least list of the kind behind xs, which may be of the kind or not
    pub record IsNext (Is : List A → Type 0) (xs s : List A) : Type 0 where
      pub is_one : Is s
      pub behind : IsBelow xs s
      pub least : (t : List A) → Is t → IsBelow xs t → IsUpto s t

    -- that one, or none where no list of the kind is behind xs
    abbrev pub IsNextOrEnd : (List A → Type 0) → List A → Option (List A) → Type 0
    IsNextOrEnd Is xs None = (t : List A) → Is t → IsBelow xs t → ⊥
    IsNextOrEnd Is xs (Some s) = IsNext Is xs s

    -- ---- all lists of a kind

    -- each of these lists is behind xs
    abbrev pub AreBehind : List A → List (List A) → Type 0
    AreBehind xs [] = Unit {0}
    AreBehind xs (s ∷ ss) = IsBelow xs s × AreBehind xs ss

    -- each list is behind all that stand before it: so they ascend, and none is there twice
    abbrev pub AreClimbing : List (List A) → Type 0
    AreClimbing [] = Unit {0}
    AreClimbing (s ∷ ss) = AreBehind s ss × AreClimbing ss

    -- all is the list of all lists of the kind, ascending, each once
    pub record AreExactly (Is : List A → Type 0) (all : List (List A)) : Type 0 where
      pub climbing : AreClimbing all
      pub each : (t : List A) → IsAmong t all → Is t
      pub complete : (t : List A) → Is t → IsAmong t all
