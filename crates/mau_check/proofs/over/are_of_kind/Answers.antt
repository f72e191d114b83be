use Rattle.std.proofs.Common.{arith, refl}
use Rattle.mau_check.proofs.Overs.{all_of_kind, one_of_kind}
use Rattle.mau_check.specs.declared.kept.Holes.TheVariants.{Absent}
use Rattle.mau_check.proofs.over.are_of_kind.Goals as goal

pub returns-then-arg-kind : goal.returns-then-arg-kind
returns-then-arg-kind c = (
  (λ t. absurd cc),
  (λ all. absurd (c.if-arg-kind.true (one_of_kind c.args.kind c.args.args.now c.loop-arg.arg-index (record { id = record { 0 = 0 }; kind = 0; holes = Absent }) c.loop-arg-test.true all))),
)

pub returns : goal.returns
returns c = ((λ t. all_of_kind c.args.kind c.args.args.now (λ i d l. c.loop-arg.invariant i d (omega (arith, l, c.loop-arg-test.false)))), (λ all. refl))
