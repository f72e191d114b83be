-- Sources and sinks in memory, as callers see them.
use Rattle.std.specs.Prelude.{ℕ, List}

-- the bytes that are left, the numbers of the calls that fail, how many calls there were, and how
-- many failed
pub record Input : Type 0 where
  pub left : List ℕ
  pub failing : List ℕ
  pub calls : ℕ
  pub faults : ℕ

-- the bytes that were written, how many may be, the numbers of the calls that fail, how many calls
-- there were, and how many failed
pub record Output : Type 0 where
  pub written : List ℕ
  pub capacity : ℕ
  pub failing : List ℕ
  pub calls : ℕ
  pub faults : ℕ
