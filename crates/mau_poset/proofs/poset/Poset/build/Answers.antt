use Rattle.mau_poset.proofs.Readers.{IsLeastCycle-loop, IsPoset-no_loop}
use Rattle.mau_poset.proofs.poset.Poset.build.Goals as goal

pub over-requires-clause-poset : goal.over-requires-clause-poset
over-requires-clause-poset c =
    IsPoset-no_loop _ _ c.requires.within c.in_ok-table.ensures (rw c.deref.ensures.value at c.in-None.ensures.none)

pub returns-in-Some-clause-cycle : goal.returns-in-Some-clause-cycle
returns-in-Some-clause-cycle c =
    IsLeastCycle-loop _ _ _ _ c.requires.within c.in_ok-table.ensures (rw c.deref.ensures.value at c.in-Some.ensures.least)
