use Rattle.std.proofs.Common.{◌≡◌, true, sym, ◌∙◌, arith, below_more}
use Rattle.mau_evaluation.specs.Evaluation.{has_number}
use Rattle.mau_reduce.proofs.PlacesNamed.{has_number-any, names_below, names_missing}
use Rattle.mau_reduce.proofs.rebuilding.names_all.Goals as goal

pub returns-then-not-contains : goal.returns-then-not-contains
returns-then-not-contains c = λ ts e.
    sym (names_missing c.args.order.now 0 ts c.loop-place.place-counter (omega arith) (omega (arith, e, c.loop-place-test.true))
    (sym (has_number-any c.args.order.now c.loop-place.place-counter) ∙ (sym c.contains.ensures.value ∙ c.if-not-contains.true)))

pub loop-place-preserved : goal.loop-place-preserved
loop-place-preserved c =
    below_more (λ k. has_number c.args.order.now k ≡ true) c.loop-place.place-counter c.loop-place.invariant
    (sym (has_number-any c.args.order.now c.loop-place.place-counter) ∙ (sym c.contains.ensures.value ∙ c.if-not-contains.false))

pub returns : goal.returns
returns c = λ ts e. sym (names_below c.args.order.now 0 ts (λ k l m. c.loop-place.invariant k (omega (arith, e, m, c.loop-place-test.false))))
