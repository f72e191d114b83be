use Rattle.mau_poset.proofs.Closures.{HasOnlyChains-zeros}
use Rattle.mau_poset.proofs.closure.closure.Goals as goal

pub close-requires-clause-leads : goal.close-requires-clause-leads
close-requires-clause-leads c = rw c.deref-4.ensures.value c.in_ok-above.ensures.leads

pub close-requires-clause-sound : goal.close-requires-clause-sound
close-requires-clause-sound c =
    let zeros = c.in_ok-table.ensures.items_if_clones_equal (λ y same. same) in
    rw (c.deref_mut.ensures.value, zeros) (HasOnlyChains-zeros _ _ _)
