use Rattle.std.proofs.Common.{inl, inr, refl, arith}
use Rattle.std.proofs.lemmas.Bool.{cases_lt}
use Rattle.mau_extend.proofs.fresh.free_variables.Goals as goal

pub returns-in_err-first-clause-none : goal.returns-in_err-first-clause-none
returns-in_err-first-clause-none c = λ _ i j less small left right. c.in_err-first.ensures.none refl i (omega arith) (omega (arith, less, small)) left

pub returns-in_err-last-clause-none : goal.returns-in_err-last-clause-none
returns-in_err-last-clause-none c = λ _ i j less small left right. elim (cases_lt c.in_ok-first.first j) [
  | inl h ↦ c.in_err-last.ensures.none refl j (omega (arith, h)) small right
  | inr h ↦ c.in_ok-first.ensures.first i (omega arith) (omega (arith, less, h)) left
]
