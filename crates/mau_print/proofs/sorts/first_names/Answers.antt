use Rattle.mau_print.proofs.FirstNames.{noted-more}
use Rattle.mau_print.proofs.sorts.first_names.Goals as goal

pub loop-sort-preserved : goal.loop-sort-preserved
loop-sort-preserved c =
    noted-more c.args.sorts.now c.loop-sort.sort-index c.sort-item.result c.args.first c.args.kinds _ _ c.loop-sort-test.true c.sort-item.is c.loop-sort.invariant c.note_first.ensures.len c.in_ok-note_first.ensures.each
