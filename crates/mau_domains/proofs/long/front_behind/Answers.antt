use Rattle.std.proofs.Common.{◌<◌, length, ◌∙◌, arith, rules}
use Rattle.std.proofs.lemmas.List.{drop_all}
use Rattle.mau_lists.specs.Terms.{by_tree, no_term}
use Rattle.mau_lists.proofs.Steps.{front_past_last, front_met}
use Rattle.mau_lists.proofs.SharedFronts.{nothing_shared, front_shared}
use Rattle.mau_domains.proofs.long.front_behind.Goals as goal

pub loop-i-init : goal.loop-i-init
loop-i-init c = record { same = front_shared {nodes = c.args.store.now} c.args.last.now c.args.items.now 0 (nothing_shared c.args.last.now c.args.items.now); met = omega arith }

pub returns-then-i-last-clause-next : goal.returns-then-i-last-clause-next
returns-then-i-last-clause-next c =
    c.loop-i.invariant.same
    ∙ front_past_last (by_tree c.args.store.now) no_term c.args.last.now c.args.items.now c.loop-i.i c.loop-i-test.true (drop_all c.loop-i.i c.args.last.now (omega (arith, c.if-i-last.true)))

pub loop-i-preserved : goal.loop-i-preserved
loop-i-preserved c =
    let longer : c.loop-i.i < length c.args.last.now = omega (arith, c.loop-i.invariant.met, c.if-i-last.false) in
    record {
      same = c.loop-i.invariant.same ∙ front_met (by_tree c.args.store.now) no_term c.args.last.now c.args.items.now c.loop-i.i c.loop-i-test.true longer (search (rules, c.in-Equal.ensures.order));
      met = omega arith;
    }
