use Rattle.std.proofs.Common.{◌∙◌, sym}
use Rattle.mau_store.specs.Node.{IsOf}
use Rattle.mau_store.specs.Trees.{trees_at}
use Rattle.mau_store.specs.View.{numbers}
use Rattle.mau_lists.specs.Lists.{IsSubList}
use Rattle.mau_domains.proofs.Adding.{IfSome-then, all_of_sub_list}
use Rattle.mau_domains.proofs.LongerIds.{found_start, found_sub_list}
use Rattle.mau_domains.proofs.long.next_long_sub_list.Goals as goal
use Rattle.mau_terms.proofs.Outcomes.{IfOk-then}

pub sub_list_behind-requires-clause-last : goal.sub_list_behind-requires-clause-last
sub_list_behind-requires-clause-last c =
    IfSome-then _ _ (λ v h. all_of_sub_list (IsOf c.args.store.now) (numbers v.items) (numbers c.args.items.now) h c.requires.items) c.in_ok-list.list c.in_ok-list.ensures.part

pub returns-then-is_short-clause-next : goal.returns-then-is_short-clause-next
returns-then-is_short-clause-next c =
    let nodes = c.args.store.now in
    let us = trees_at nodes (numbers c.args.last.now) in
    let short = sym c.is_short.ensures ∙ c.if-is_short.true in
    IfOk-then _ _
    (λ p h. found_sub_list nodes c.args.items.now us c.requires.sorted c.in_ok-list.list p short
    (found_start nodes (λ t. IsSubList t (trees_at nodes (numbers c.args.items.now))) us c.in_ok-list.list c.in_ok-list.ensures.next) h)
    c.sub_list_behind.result c.sub_list_behind.ensures.next
