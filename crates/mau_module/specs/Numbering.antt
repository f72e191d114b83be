-- Sorts and kinds in the numbers of a module that includes theirs: a sort keeps its name, and a kind is that of its first sort.
use Rattle.std.specs.Prelude.{ℕ, ◌+◌, ◌==◌, nat_lt, List, Option, position, if◌then◌else◌}
use Rattle.std.specs.List.{range_with_len}
use Rattle.std.specs.Option.{option_map_or}
use Rattle.mau_poset.specs.Order.{Hierarchy, kind_of, kinds}
use Rattle.mau_declare.specs.Names.{number_of}
use Rattle.mau_declare.specs.Flattened.{name_at}

-- a number, or 0 where there is none
abbrev pub or_zero : Option ℕ → ℕ
or_zero r = option_map_or (λ i. i) r 0

-- the number of a name; 0 where it has none
abbrev pub number_in : List (List ℕ) → List ℕ → ℕ
number_in names x = or_zero (number_of names x)

-- the number, among new names, of the sort s of old ones
abbrev pub sort_to : List (List ℕ) → List (List ℕ) → ℕ → ℕ
sort_to olds news s = number_in news (name_at olds s)

-- the first sort of the kind k; 0 where there is none
abbrev pub first_sort_of : Hierarchy → ℕ → ℕ
first_sort_of h k = or_zero (position (λ s. kind_of h s == k) (range_with_len 0 h.sorts))

-- the number, over the new hierarchy, of a sort or a kind of the old one; 0 for any other number
abbrev pub number_to : List (List ℕ) → Hierarchy → List (List ℕ) → Hierarchy → ℕ → ℕ
number_to olds old news new a =
    if nat_lt a old.sorts then sort_to olds news a
    else (if nat_lt a (old.sorts + kinds old) then kind_of new (sort_to olds news (first_sort_of old a)) else 0)

-- a subsort pair
abbrev pub pair_to : List (List ℕ) → List (List ℕ) → ℕ × ℕ → ℕ × ℕ
pair_to olds news p = (sort_to olds news p.0, sort_to olds news p.1)
