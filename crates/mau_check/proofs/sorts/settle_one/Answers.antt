use Rattle.std.proofs.Common.{sym, ◌∙◌, subst}
use Rattle.mau_store.specs.Trees.{tree_at}
use Rattle.mau_sorts.specs.SortSets.{AreSorts}
use Rattle.mau_sorts.specs.Table.{IsKnownOf}
use Rattle.mau_logic.specs.Shown.{known_by}
use Rattle.mau_check.proofs.Tells.{told_below, known_told}
use Rattle.mau_check.proofs.sorts.settle_one.Goals as goal

pub settle_declared-requires-clause-more : goal.settle_declared-requires-clause-more
settle_declared-requires-clause-more c =
    subst (AreSorts c.args.sig.now.hierarchy) (sym (c.deref.ensures.value ∙ c.in_ok-told.ensures)) (told_below c.args.sig.now c.args.id.0 c.args.uses.now c.requires.told)

pub returns-clause-entries : goal.returns-clause-entries
returns-clause-entries c us h entries =
    c.in_ok-settle_declared.ensures.value (known_by c.args.sig.now us) entries
    (subst (IsKnownOf (known_by c.args.sig.now us) (tree_at c.args.store.now c.args.id.0)) (sym (c.deref.ensures.value ∙ c.in_ok-told.ensures))
    (known_told c.args.sig.now c.args.store.now c.len.ensures.nodes c.args.id.0 (c.is_ready.ensures.0 c.if-not-is_ready.false).there c.args.uses.now us h))
