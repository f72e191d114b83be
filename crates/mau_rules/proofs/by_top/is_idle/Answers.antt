use Rattle.std.proofs.Common.{◌&&◌, ℕ, map, sym, ap, ◌∙◌}
use Rattle.mau_terms.specs.Tree.{trees_of}
use Rattle.mau_store.specs.Trees.{tree_at, trees_at}
use Rattle.mau_store.specs.View.{numbers}
use Rattle.mau_rules.specs.ByTop.{is_idle, are_idle}
use Rattle.mau_rules.proofs.Idle.{all_idle}
use Rattle.mau_rules.proofs.by_top.is_idle.Goals as goal

pub returns-else-not-has_none : goal.returns-else-not-has_none
returns-else-not-has_none c =
    let lists = map (λ list. list.items) c.args.orders.now in
    let nodes = c.args.store.now in
    let ids = numbers c.in-App.ids.now in
    c.all_idle.ensures (λ (i : ℕ). is_idle lists (tree_at nodes i)) c.requires.table.each
    ∙ (all_idle lists nodes ids
    ∙ sym (ap (is_idle lists) c.in-App.ensures.tree ∙ ap (λ b. b && are_idle lists (trees_of (trees_at nodes ids))) (sym c.has_none.ensures ∙ c.if-not-has_none.false)))
