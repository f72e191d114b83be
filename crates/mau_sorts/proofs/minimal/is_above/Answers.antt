use Rattle.std.proofs.Common.{subst, sym}
use Rattle.std.proofs.lemmas.List.{take_all}
use Rattle.mau_sorts.specs.SortSets.{IsAbove}
use Rattle.mau_sorts.proofs.MinimalSorts.{IsAbove-nil, not_above_more}
use Rattle.mau_sorts.proofs.minimal.is_above.Goals as goal

pub loop-lower-init : goal.loop-lower-init
loop-lower-init c = IsAbove-nil c.args.poset.now c.args.sort

pub loop-lower-preserved : goal.loop-lower-preserved
loop-lower-preserved c =
    not_above_more c.args.poset.now c.args.minimal.now c.loop-lower.lower-index c.args.sort c.loop-lower-test.true c.loop-lower.invariant
    (λ low. absurd (let e = c.leq.ensures.value.1 low in let f = c.if-leq.false in cc (e, f)))

pub returns : goal.returns
returns c = (
  λ yes. absurd (cc yes),
  λ above. absurd (c.loop-lower.invariant (subst (λ xs. IsAbove c.args.poset.now xs c.args.sort) (sym (take_all c.loop-lower.lower-index c.args.minimal.now c.loop-lower-test.false)) above)),
)
