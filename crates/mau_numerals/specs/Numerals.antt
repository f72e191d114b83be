-- Numerals: decimal digits without a leading zero, or `0`. The value of digits is std's.
use Rattle.std.specs.Prelude.{ℕ, ◌==◌, nat_lt, nat_le, List, length, slice_index, Bool, not, ◌&&◌, Option, Some, None, if◌then◌else◌}
use Rattle.std.specs.List.{list_all}
use Rattle.std.specs.Char.{is_ascii_digit}
use Rattle.std.specs.Str.Parse.{digits_value}

-- more than one byte, and the first is a zero
abbrev pub has_leading_zero : List ℕ → Bool
has_leading_zero w = nat_lt 1 (length w) && slice_index w 0 == 48

abbrev pub is_numeral : List ℕ → Bool
is_numeral w = not (length w == 0) && not (has_leading_zero w) && list_all is_ascii_digit w

-- a numeral of at most this number
abbrev pub is_up_to : ℕ → List ℕ → Bool
is_up_to limit w = is_numeral w && nat_le (digits_value 10 w) limit

-- the number that a text is, if it is a numeral of at most this one
abbrev pub number_up_to : ℕ → List ℕ → Option ℕ
number_up_to limit w = if is_up_to limit w then Some (digits_value 10 w) else None
