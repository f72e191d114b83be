use Rattle.std.proofs.Common.{subst, sym, length}
use Rattle.mau_declare.specs.Elements.{AreListsBelow}
use Rattle.mau_declare.proofs.Below.{sort_below}
use Rattle.mau_declare.proofs.lists.Lists.read_sort.Goals as goal

pub returns-in-Ok-add_sort-clause-below : goal.returns-in-Ok-add_sort-clause-below
returns-in-Ok-add_sort-clause-below c = λ h.
    subst (AreListsBelow (length c.args.sorts.now)) (sym c.in-Ok-add_sort.ensures) (sort_below _ c.args.self.now c.in-Ok.used.sort c.in-Ok.ensures.within h)
