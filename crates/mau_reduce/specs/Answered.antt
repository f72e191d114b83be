-- What a native operator answers for two numbers.
use Rattle.std.specs.Prelude.{ℕ}
use Rattle.mau_formula.specs.Operator.{Operator}
use Rattle.mau_formula.specs.Expr.{value}
use Rattle.mau_reduce.specs.declared.natives.Answered.{Answered}

-- the value of its formula, and what that stands for
abbrev pub answered_by : ℕ → ℕ → Operator → Answered
answered_by a b o = record { gives = o.gives; answer = value o.formula a b }
