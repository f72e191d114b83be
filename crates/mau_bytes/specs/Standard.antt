-- Sources and sinks over a reader or a writer, as callers see them.
use Rattle.std.specs.Prelude.{ℕ}

-- the reader or writer inside, and how often it has failed
pub record Standard (Inner : Type 0) : Type 0 where
  pub inner : Inner
  pub faults : ℕ
