use Rattle.std.proofs.Common.{sym, ◌∙◌}
use Rattle.mau_results.proofs.ShownSorts.{entry_there}
use Rattle.mau_results.proofs.answer.shown_sort.Goals as goal

pub unreachable-requires : goal.unreachable-requires
unreachable-requires c =
    entry_there c.args.store.now c.args.sorts.now c.args.term.0 c.len.ensures.nodes c.requires.there c.requires.settled (sym c.in-None.is ∙ c.sort_of.ensures.value)
