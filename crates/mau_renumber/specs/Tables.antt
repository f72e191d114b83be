-- Tables of numbers, as the code keeps them.
use Rattle.std.specs.Prelude.{ℕ, get_or}
use Rattle.mau_renumber.specs.declared.carry.Tables.{Tables}
use Rattle.mau_renumber.specs.Carried.{Numbers}

-- the numbers of sorts and kinds; 0 behind the last one
abbrev pub sorts_in : Tables → ℕ → ℕ
sorts_in t a = get_or t.sorts.items a 0

abbrev pub operators_in : Tables → ℕ → ℕ
operators_in t n = get_or t.operators.items n 0

abbrev pub numbers_in : Tables → Numbers
numbers_in t = record { sort = sorts_in t; operator = operators_in t }
