use Rattle.std.proofs.Common.{length, take, get_or, add-one, sym, ◌∙◌, subst}
use Rattle.std.specs.Prelude.{All}
use Rattle.std.proofs.lemmas.List.{take_all}
use Rattle.mau_store.specs.Trees.{trees_at}
use Rattle.mau_store.specs.View.{numbers}
use Rattle.mau_store.proofs.Arguments.{id_below}
use Rattle.mau_check.specs.Marks.{HasNoHole}
use Rattle.mau_check.proofs.HolesFilled.{no_hole_push, mark_read}
use Rattle.mau_check.proofs.filling.some_marked.Goals as goal

pub bounds-marks-arg : goal.bounds-marks-arg
bounds-marks-arg c = id_below (length c.args.marks.now) c.args.args.now c.loop-arg.arg-index (record { 0 = 0 }) c.loop-arg-test.true c.requires

pub loop-arg-preserved : goal.loop-arg-preserved
loop-arg-preserved c nodes h =
    let ids = c.args.args.now in
    let k = c.loop-arg.arg-index in
    let below = id_below (length c.args.marks.now) ids k (record { 0 = 0 }) c.loop-arg-test.true c.requires in
    subst (λ n. All HasNoHole (trees_at nodes (numbers (take n ids)))) (sym (add-one k))
    (no_hole_push nodes ids k (record { 0 = 0 }) c.loop-arg-test.true (c.loop-arg.invariant nodes h) ((h (get_or ids k (record { 0 = 0 })).0 below).1 (sym (mark_read c.args.marks.now _ _ below) ∙ c.if-marks-arg.false)))

pub returns : goal.returns
returns c nodes h e = subst (λ is. All HasNoHole (trees_at nodes (numbers is))) (take_all c.loop-arg.arg-index c.args.args.now c.loop-arg-test.false) (c.loop-arg.invariant nodes h)
