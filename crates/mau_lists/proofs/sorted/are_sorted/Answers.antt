use Rattle.std.proofs.Common.{◌≡◌, true, false, sym, ◌∙◌, ap, arith, refl}
use Rattle.std.specs.Ordering.{is_gt}
use Rattle.mau_lists.proofs.Adjacent.{sorted, not_sorted}
use Rattle.mau_lists.proofs.sorted.are_sorted.Goals as goal

pub returns-then-is_gt : goal.returns-then-is_gt
returns-then-is_gt c = record {
  sorted = (
    λ h. let w : false ≡ true = h in cc,
    λ s. absurd (not_sorted c.args.store.now c.args.items.now c.loop-i.i (omega (arith, c.loop-i.auto.i)) c.loop-i-test.true (sym (c.is_gt.ensures ∙ ap is_gt c.compare.ensures.order) ∙ c.if-is_gt.true) s),
  );
}

pub returns : goal.returns
returns c = record {
  sorted = (
    λ h. sorted c.args.store.now c.args.items.now (λ k l. c.loop-i.invariant k (omega (arith, l, c.loop-i-test.false))),
    λ s. refl,
  );
}
