use Rattle.std.proofs.Common.{refl}
use Rattle.std.proofs.lemmas.Bool.{iff_false}
use Rattle.std.proofs.lemmas.List.Elements.{Contains-get_or}
use Rattle.mau_poset.proofs.Least.{IsLowest-takes, IsLowest-keeps}
use Rattle.mau_poset.proofs.poset.Poset.lowest_of.Goals as goal
use Rattle.mau_poset.proofs.poset.Poset.lowest_of.Goals.{then-leq, else-leq}

pub loop-sort-preserved : goal.loop-sort-preserved
loop-sort-preserved c =
    let among = Contains-get_or c.args.sorts.now c.loop-sort.sort-index 0 c.loop-sort-test.true in
    elim c.if-leq.branch [
      | then-leq w ↦ rw w.lowest-is (IsLowest-takes _ _ _ _ _ c.leq.ensures.poset c.loop-sort-test.true refl among c.loop-sort.invariant (c.leq.ensures.value.0 w.if-leq.true))
      | else-leq w ↦ rw w.lowest-is (IsLowest-keeps _ _ _ _ _ c.loop-sort-test.true refl c.loop-sort.invariant (iff_false c.leq.ensures.value w.if-leq.false))
    ]
