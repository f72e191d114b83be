use Rattle.std.proofs.Common.{◌<◌, ℕ}
use Rattle.mau_parse.specs.TooLarge.{IsTooLarge}
use Rattle.mau_parse.proofs.numerals.first_too_large.Given as goal

abbrev pub invariant-loop-i : goal.invariant-loop-i
invariant-loop-i l = (j : ℕ) → j < l.i → IsTooLarge l.words j → ⊥
