-- The definitions at small lists of numbers, computed.
use Rattle.std.proofs.Common.{◌≡◌, ℕ, ◌<◌, List, [], ◌∷◌, Some, None, inl, inr, refl, lit<}
use Rattle.std.specs.Ordering.{nat_cmp}
use Rattle.mau_lists.specs.Lists.{IsSubList, IsFront, IsPart, IsBelow, AreClimbing}
use Rattle.mau_lists.specs.Following.{next_sub_list, next_front, next_part}
use Rattle.mau_lists.specs.Listed.{sub_lists, fronts, parts}

abbrev numbers : List ℕ → List ℕ
numbers ns = ns

abbrev one_one_two : List ℕ
one_one_two = 1 ∷ 1 ∷ 2 ∷ []

abbrev two_one_two : List ℕ
two_one_two = 2 ∷ 1 ∷ 2 ∷ []

abbrev Before : ℕ → ℕ → Type 0
Before x y = x < y

-- ---- kinds of lists

one_two_is_sub_list : IsSubList (numbers (1 ∷ 2 ∷ [])) one_one_two
one_two_is_sub_list = inl (refl, inr (inl (refl, tt)))

empty_is_sub_list : IsSubList (numbers []) one_one_two
empty_is_sub_list = tt

twice_two_is_none : IsSubList (numbers (2 ∷ 2 ∷ [])) (numbers (2 ∷ [])) → ⊥
twice_two_is_none (inl h) = h.1
twice_two_is_none (inr h) = h

one_one_is_front : IsFront (numbers (1 ∷ 1 ∷ [])) one_one_two
one_one_is_front = (refl, (refl, tt))

one_two_is_part : IsPart (numbers (1 ∷ 2 ∷ [])) one_one_two
one_two_is_part = inr (inl (refl, (refl, tt)))

whole_is_part : IsPart two_one_two two_one_two
whole_is_part = inl (refl, (refl, (refl, tt)))

-- ---- the order of lists

front_is_below : IsBelow Before (numbers (1 ∷ [])) one_one_two
front_is_below = inr (refl, tt)

first_pair_decides : IsBelow Before (numbers (1 ∷ 1 ∷ 2 ∷ [])) (numbers (1 ∷ 2 ∷ []))
first_pair_decides = inr (refl, inl (lit< tt))

-- ---- the next list

sub_list_after_one : next_sub_list nat_cmp (1 ∷ []) one_one_two ≡ Some (1 ∷ 1 ∷ [])
sub_list_after_one = refl

sub_list_after_another : next_sub_list nat_cmp (1 ∷ 1 ∷ 1 ∷ 9 ∷ []) one_one_two ≡ Some one_one_two
sub_list_after_another = refl

no_sub_list_after_the_last : next_sub_list nat_cmp (2 ∷ []) one_one_two ≡ None
no_sub_list_after_the_last = refl

front_after_one : next_front nat_cmp (1 ∷ []) one_one_two ≡ Some (1 ∷ 1 ∷ [])
front_after_one = refl

part_after_one : next_part nat_cmp (1 ∷ []) two_one_two ≡ Some (1 ∷ 2 ∷ [])
part_after_one = refl

part_after_another : next_part nat_cmp (1 ∷ 5 ∷ []) two_one_two ≡ Some (2 ∷ [])
part_after_another = refl

-- ---- all lists

sub_lists_of_two : sub_lists (numbers (1 ∷ 2 ∷ [])) ≡ [] ∷ (2 ∷ []) ∷ (1 ∷ []) ∷ (1 ∷ 2 ∷ []) ∷ []
sub_lists_of_two = refl

fronts_of_two : fronts (numbers (1 ∷ 2 ∷ [])) ≡ [] ∷ (1 ∷ []) ∷ (1 ∷ 2 ∷ []) ∷ []
fronts_of_two = refl

parts_of_two : parts (numbers (1 ∷ 2 ∷ [])) ≡ [] ∷ (1 ∷ []) ∷ (1 ∷ 2 ∷ []) ∷ [] ∷ (2 ∷ []) ∷ [] ∷ []
parts_of_two = refl

equal_elements_climb : AreClimbing Before (numbers [] ∷ (1 ∷ []) ∷ (1 ∷ 1 ∷ []) ∷ [])
equal_elements_climb = ((tt, (tt, tt)), ((inr (refl, tt), tt), (tt, tt)))
