use Rattle.std.proofs.Common.{◌+◌, ◌-◌, ◌∷◌, ◌++◌, [], drop, get_or, sym, ap, ◌∙◌, append_assoc, append-nil}
use Rattle.mau_api.specs.Programs.{places_of}
use Rattle.mau_reduce.proofs.PlacesNamed.{places_zero, places_next, places_end}
use Rattle.mau_reduce.proofs.arguments.named_places.Goals as goal

pub returns-then-number-eq0 : goal.returns-then-number-eq0
returns-then-number-eq0 c =
    sym (c.loop-number.invariant ∙ (ap (λ xs. c.loop-number.places.items ++ xs) (places_zero c.args.strategy.now c.loop-number.number-index c.loop-number-test.true c.if-number-eq0.true) ∙ append-nil c.loop-number.places.items))

pub loop-number-preserved : goal.loop-number-preserved
loop-number-preserved c =
    let n = get_or c.args.strategy.now c.loop-number.number-index 0 in
    let rest = places_of (drop (c.loop-number.number-index + 1) c.args.strategy.now) in
    c.loop-number.invariant
    ∙ (ap (λ xs. c.loop-number.places.items ++ xs) (places_next c.args.strategy.now c.loop-number.number-index c.loop-number-test.true c.if-number-eq0.false)
    ∙ (sym (append_assoc c.loop-number.places.items ((n - 1) ∷ []) rest) ∙ (ap (λ m. (c.loop-number.places.items ++ (m - 1) ∷ []) ++ rest) (sym c.from.ensures) ∙ ap (λ xs. xs ++ rest) (sym c.in_ok-push.ensures.items))))

pub returns : goal.returns
returns c =
    sym (c.loop-number.invariant ∙ (ap (λ xs. c.loop-number.places.items ++ xs) (places_end c.args.strategy.now c.loop-number.number-index c.loop-number-test.false) ∙ append-nil c.loop-number.places.items))
