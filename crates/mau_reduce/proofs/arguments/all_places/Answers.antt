use Rattle.std.proofs.Common.{◌∷◌, ◌++◌, [], sym, ap, ◌∙◌, arith}
use Rattle.std.specs.List.{range_with_len}
use Rattle.mau_reduce.proofs.PlacesNamed.{count_up-range, range-more}
use Rattle.mau_reduce.proofs.arguments.all_places.Goals as goal

pub loop-place-preserved : goal.loop-place-preserved
loop-place-preserved c =
    c.in_ok-push.ensures.items ∙ (ap (λ xs. xs ++ c.loop-place.place ∷ []) c.loop-place.invariant ∙ range-more 0 c.loop-place.place c.loop-place.place (omega arith))

pub returns : goal.returns
returns c = λ ts e. c.loop-place.invariant ∙ (ap (range_with_len 0) (omega (arith, e)) ∙ sym (count_up-range 0 ts))
