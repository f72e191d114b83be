use Rattle.std.proofs.Common.{◌≡◌, suc, ◌+◌, ◌-◌, ◌<◌, ◌≤◌, length, drop, get_or, set, subst, sym, ◌∙◌, arith}
use Rattle.std.proofs.lemmas.List.{length-set}
use Rattle.mau_strat.specs.Traces.{IsWay}
use Rattle.mau_strat.proofs.Filling.{filled_last, filled_more, back_at, back_below}
use Rattle.mau_strat.proofs.trace.fill.Goals as goal

pub loop-place-init : goal.loop-place-init
loop-place-init c =
    let room : length c.args.room.now ≡ suc (length c.args.parents.now) = omega (arith, c.requires.room, c.requires.parents) in
    let same : length (set c.args.room.now (length c.args.parents.now) c.at.result) ≡ length c.args.room.now = length-set c.args.room.now (length c.args.parents.now) c.at.result in
    record {
      before = omega arith;
      within = omega arith;
      way = filled_last c.args.listed.now c.args.parents.now c.args.room.now (length c.args.parents.now) c.at.result room (sym c.requires.parents) c.at.ensures;
    }

pub at-requires-in-loop-place : goal.at-requires-in-loop-place
at-requires-in-loop-place c =
    let room : length c.loop-place.room ≡ length c.args.room.now = c.loop-place.auto.room ∙ length-set c.args.room.now (length c.args.parents.now) c.at.result in
    let below : c.loop-place.place ≤ length c.args.parents.now = omega (arith, room, c.loop-place.invariant.before, c.loop-place.invariant.within, c.requires.room, c.requires.parents) in
    let back : get_or c.args.parents.now (c.loop-place.place - 1) 0 < c.loop-place.place = back_below c.args.listed.now c.args.parents.now c.loop-place.place c.loop-place-test.true below c.requires.earlier in
    omega (arith, c.requires.parents, below, back)

pub loop-place-smaller : goal.loop-place-smaller
loop-place-smaller c =
    let room : length c.loop-place.room ≡ length c.args.room.now = c.loop-place.auto.room ∙ length-set c.args.room.now (length c.args.parents.now) c.at.result in
    let below : c.loop-place.place ≤ length c.args.parents.now = omega (arith, room, c.loop-place.invariant.before, c.loop-place.invariant.within, c.requires.room, c.requires.parents) in
    back_below c.args.listed.now c.args.parents.now c.loop-place.place c.loop-place-test.true below c.requires.earlier

pub loop-place-preserved : goal.loop-place-preserved
loop-place-preserved c =
    let room : length c.loop-place.room ≡ length c.args.room.now = c.loop-place.auto.room ∙ length-set c.args.room.now (length c.args.parents.now) c.at.result in
    let some : 0 < c.loop-place.place = c.loop-place-test.true in
    let before : c.loop-place.place ≤ c.loop-place.begin = c.loop-place.invariant.before in
    let within : c.loop-place.begin < length c.loop-place.room = c.loop-place.invariant.within in
    let below : c.loop-place.place ≤ length c.args.parents.now = omega (arith, room, before, within, c.requires.room, c.requires.parents) in
    let at = back_at c.args.listed.now c.args.parents.now c.loop-place.place some below in
    let back : get_or c.args.parents.now (c.loop-place.place - 1) 0 < c.loop-place.place = back_below c.args.listed.now c.args.parents.now c.loop-place.place some below c.requires.earlier in
    let same : length (set c.loop-place.room (c.loop-place.begin - 1) c.at-in-loop-place.result) ≡ length c.loop-place.room = length-set c.loop-place.room (c.loop-place.begin - 1) c.at-in-loop-place.result in
    let place : c.loop-place.place ≡ suc (c.loop-place.place - 1) = omega arith in
    let begin : c.loop-place.begin ≡ (c.loop-place.begin - 1) + 1 = omega arith in
    let here : c.loop-place.begin - 1 < length c.loop-place.room = omega arith in
    let way = subst (λ b. IsWay c.args.listed.now c.args.parents.now (suc (c.loop-place.place - 1)) (drop b c.loop-place.room)) begin (subst (λ p. IsWay c.args.listed.now c.args.parents.now p (drop c.loop-place.begin c.loop-place.room)) place c.loop-place.invariant.way) in
    record {
      before = omega (arith, back, before);
      within = omega (arith, same, here);
      way = filled_more c.args.listed.now c.args.parents.now c.loop-place.room (get_or c.args.parents.now (c.loop-place.place - 1) 0) (c.loop-place.place - 1) (c.loop-place.begin - 1) c.at-in-loop-place.result at here way c.at-in-loop-place.ensures;
    }
