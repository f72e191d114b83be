use Rattle.std.proofs.Common.{◌∙◌, sym}
use Rattle.mau_store.specs.Trees.{trees_at}
use Rattle.mau_store.specs.View.{numbers}
use Rattle.mau_lists.specs.Lists.{IsPart}
use Rattle.mau_domains.proofs.LongerIds.{found_start, found_further, found_end, fewer_parts}
use Rattle.mau_domains.proofs.long.next_long_part.Goals as goal

pub loop-list-init : goal.loop-list-init
loop-list-init c =
    let nodes = c.args.store.now in
    record {
      found = found_start nodes (λ t. IsPart t (trees_at nodes (numbers c.args.items.now))) (trees_at nodes (numbers c.args.last.now)) c.in_ok-list.list c.in_ok-list.ensures.next;
      part = c.in_ok-list.ensures.part;
    }

pub loop-list-preserved : goal.loop-list-preserved
loop-list-preserved c =
    let nodes = c.args.store.now in
    record {
      found = found_further nodes (λ t. IsPart t (trees_at nodes (numbers c.args.items.now))) (trees_at nodes (numbers c.args.last.now)) c.loop-list.list c.in_ok-list-2.list (sym c.is_short.ensures ∙ c.loop-list-test.true) c.loop-list.invariant.found c.in_ok-list-2.ensures.next;
      part = c.in_ok-list-2.ensures.part;
    }

pub loop-list-smaller : goal.loop-list-smaller
loop-list-smaller c = fewer_parts c.args.store.now c.args.items.now c.loop-list.list c.in_ok-list-2.list (sym c.is_short.ensures ∙ c.loop-list-test.true) c.in_ok-list-2.ensures.next

pub returns-clause-next : goal.returns-clause-next
returns-clause-next c =
    let nodes = c.args.store.now in
    found_end nodes (λ t. IsPart t (trees_at nodes (numbers c.args.items.now))) (trees_at nodes (numbers c.args.last.now)) c.loop-list.list (sym c.is_short.ensures ∙ c.loop-list-test.false) c.loop-list.invariant.found
