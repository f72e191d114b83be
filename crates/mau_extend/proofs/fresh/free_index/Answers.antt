use Rattle.std.proofs.Common.{inl, inr, subst, arith}
use Rattle.std.proofs.lemmas.Bool.{cases_lt}
use Rattle.mau_extend.specs.Extended.{IsUnused}
use Rattle.mau_extend.proofs.fresh.free_index.Goals as goal

pub loop-index-preserved : goal.loop-index-preserved
loop-index-preserved c = λ k from below unused. elim (cases_lt k c.loop-index.index) [
  | inl h ↦ c.loop-index.invariant k from h unused
  | inr h ↦ c.is_used.ensures.used c.if-not-is_used.false (subst (IsUnused c.args.places.now c.args.bound.now) (omega (arith, h, below)) unused)
]

pub returns-clause-none : goal.returns-clause-none
returns-clause-none c = λ _ i from below. c.loop-index.invariant i from (omega (arith, below, c.loop-index-test.false))
