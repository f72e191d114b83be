use Rattle.std.proofs.Common.{◌≡◌, map, arith, subst}
use Rattle.mau_reduce.specs.ByTop.{AreEmpty}
use Rattle.mau_reduce.proofs.Ordered.{no_lists, one_more_empty}
use Rattle.mau_reduce.proofs.compiling.empty_lists.Goals as goal

pub loop-init : goal.loop-init
loop-init c = no_lists (λ list. list.items) c.in_ok-lists.lists.items c.in_ok-lists.ensures.items

pub loop-preserved : goal.loop-preserved
loop-preserved c =
    one_more_empty (λ list. list.items) c.loop.lists.items c.push.new.self.items c.new.result c.loop.counter c.in_ok-push.ensures.items c.new.ensures.items c.loop.invariant

pub returns : goal.returns
returns c =
    let end : c.loop.counter ≡ c.args.count = omega arith in
    subst (λ n. AreEmpty n (map (λ list. list.items) c.loop.lists.items)) end c.loop.invariant
