-- Computed cases of what a program gives to evaluation. Four sorts: 0 and 1 are below 2, and 3 stands alone in a kind of its own; the kinds are 4 and 5.
use Rattle.std.proofs.Common.{◌≡◌, [], ◌∷◌, true, false, refl}
use Rattle.mau_poset.specs.Order.{Hierarchy, first_sort, kinds_before, kind_of}
use Rattle.mau_api.specs.SortLists.{is_chained, sorts_above}
use Rattle.mau_api.specs.Programs.{places_of}

abbrev four : Hierarchy
four = record { sorts = 4; pairs = (0, 2) ∷ (1, 2) ∷ [] }

-- a sort, the one above it and its kind
above_first : sorts_above four 0 ≡ 0 ∷ 2 ∷ 4 ∷ []
unfolding kind_of first_sort kinds_before
above_first = refl

above_second : sorts_above four 1 ≡ 1 ∷ 2 ∷ 4 ∷ []
unfolding kind_of first_sort kinds_before
above_second = refl

above_alone : sorts_above four 3 ≡ 3 ∷ 5 ∷ []
unfolding kind_of first_sort kinds_before
above_alone = refl

-- above a kind stands nothing
above_kind : sorts_above four 4 ≡ 4 ∷ []
unfolding kind_of first_sort kinds_before
above_kind = refl

-- chains go on from pair to pair, whatever the order of the pairs, and never back
chained : is_chained ((1, 2) ∷ (0, 1) ∷ []) 0 2 ≡ true
chained = refl

not_back : is_chained ((1, 2) ∷ (0, 1) ∷ []) 2 0 ≡ false
not_back = refl

-- `strat (2 1 0)` and `strat (0)`
second_and_first : places_of (2 ∷ 1 ∷ 0 ∷ []) ≡ 1 ∷ 0 ∷ []
second_and_first = refl

no_place : places_of (0 ∷ []) ≡ []
no_place = refl
