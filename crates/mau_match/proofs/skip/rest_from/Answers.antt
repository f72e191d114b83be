use Rattle.std.proofs.Common.{◌≡◌, ℕ, ◌+◌, ◌<◌, ◌≤◌, Bool, true, false, length, drop, if◌then◌else◌, sym, ◌∙◌, ap, arith}
use Rattle.std.specs.Ordering.{is_eq}
use Rattle.mau_match.specs.Skipped.{rest_of}
use Rattle.mau_match.proofs.Places.{terms}
use Rattle.mau_match.proofs.Skipping.{rest_done, rest_past, rest_step}
use Rattle.mau_match.proofs.skip.rest_from.Goals as goal

pub returns-then-taken-list-clause-rest : goal.returns-then-taken-list-clause-rest
returns-then-taken-list-clause-rest c = sym (c.loop-i.invariant.same ∙ rest_done c.args.store.now c.args.list.now c.args.items.now c.loop-i.taken c.loop-i.i c.if-taken-list.true)

pub returns-clause-rest : goal.returns-clause-rest
returns-clause-rest c = sym (c.loop-i.invariant.same ∙ rest_past c.args.store.now c.args.list.now c.args.items.now c.loop-i.taken c.loop-i.i c.if-taken-list-2.false c.loop-i-test.false)

pub loop-i-preserved : goal.loop-i-preserved
loop-i-preserved c = record {
  same =
      c.loop-i.invariant.same
      ∙ rest_step c.args.store.now c.args.list.now c.args.items.now c.loop-i.taken c.loop-i.i c.if-taken-list.false c.loop-i-test.true c.is_eq-same.result (ap is_eq (sym c.compare.ensures.order) ∙ sym c.is_eq-same.ensures)
      ∙ ap (λ k. rest_of (terms c.args.store.now (drop k c.args.list.now)) (terms c.args.store.now (drop (c.loop-i.i + 1) c.args.items.now))) (sym c.counted-taken.ensures);
  room = at c.is_eq-same.result c.loop-i.taken c.counted-taken.result (length c.args.list.now) c.counted-taken.ensures c.if-taken-list.false;
}
  where
    at : (b : Bool) (k r n : ℕ) → r ≡ (if b then k + 1 else k) → k < n → r ≤ n
    at true k r n e l = omega (arith, e, l)
    at false k r n e l = omega (arith, e, l)
