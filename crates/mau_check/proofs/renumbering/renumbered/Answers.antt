use Rattle.std.proofs.Common.{length, arith}
use Rattle.mau_check.proofs.NumbersElsewhere.{argument_below, renumbered_more}
use Rattle.mau_check.proofs.renumbering.renumbered.Goals as goal

pub bounds-numbers-arg : goal.bounds-numbers-arg
bounds-numbers-arg c = argument_below (length c.args.numbers.now) c.args.args.now c.loop-arg.arg-index _ c.requires c.loop-arg-test.true

pub offset_bounds-numbers-arg : goal.offset_bounds-numbers-arg
offset_bounds-numbers-arg c =
    let h = argument_below (length c.args.numbers.now) c.args.args.now c.loop-arg.arg-index (record { 0 = 0 }) c.requires c.loop-arg-test.true in
    omega arith

pub loop-arg-preserved : goal.loop-arg-preserved
loop-arg-preserved c =
    renumbered_more c.args.numbers.now c.args.args.now c.loop-arg.arg-index _ _ c.requires c.loop-arg-test.true c.loop-arg.ids.items c.push.new.self.items c.loop-arg.invariant c.in_ok-push.ensures.items
