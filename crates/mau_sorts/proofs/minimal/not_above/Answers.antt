use Rattle.std.proofs.Common.{subst, sym, ap, ◌∙◌}
use Rattle.std.proofs.lemmas.List.{take_all}
use Rattle.mau_sorts.specs.SortSets.{AreNotAbove}
use Rattle.mau_sorts.proofs.MinimalSorts.{AreNotAbove-nil, keep_more, drop_more}
use Rattle.mau_sorts.proofs.minimal.not_above.Goals as goal
use Rattle.mau_sorts.proofs.minimal.not_above.Goals.{then-not-leq+in_ok-push, else-not-leq}

pub loop-lower-init : goal.loop-lower-init
loop-lower-init c = subst (AreNotAbove c.args.poset.now c.args.sort _) (sym c.in_ok-kept.ensures.items) (AreNotAbove-nil c.args.poset.now c.args.sort)

pub loop-lower-preserved : goal.loop-lower-preserved
loop-lower-preserved c = elim c.if-not-leq.branch [
  | then-not-leq+in_ok-push w ↦ subst (AreNotAbove c.args.poset.now c.args.sort _) (sym (ap (λ v. v.items) w.kept-is ∙ w.in_ok-push.ensures.items))
      (keep_more c.args.poset.now c.args.sort c.args.minimal.now c.loop-lower.kept.items c.loop-lower.lower-index c.loop-lower-test.true c.loop-lower.invariant
      (λ low. absurd (let e = c.leq.ensures.value.1 low in let f = w.if-not-leq.true in cc (e, f))))
  | else-not-leq w ↦ subst (AreNotAbove c.args.poset.now c.args.sort _) (sym (ap (λ v. v.items) w.kept-is))
      (drop_more c.args.poset.now c.args.sort c.args.minimal.now c.loop-lower.kept.items c.loop-lower.lower-index c.loop-lower-test.true c.loop-lower.invariant
      (c.leq.ensures.value.0 w.if-not-leq.false))
]

pub returns : goal.returns
returns c = record { kept = subst (λ xs. AreNotAbove c.args.poset.now c.args.sort xs c.loop-lower.kept.items) (take_all c.loop-lower.lower-index c.args.minimal.now c.loop-lower-test.false) c.loop-lower.invariant }
