-- Looking for a place outside brackets: one word further.
use Rattle.std.proofs.Common.{ℕ, ◌+◌, Option, option_map}

-- what is found from a place on, as a place of the whole
abbrev pub shifted : ℕ → Option ℕ → Option ℕ
shifted i r = option_map (λ n. n + i) r
