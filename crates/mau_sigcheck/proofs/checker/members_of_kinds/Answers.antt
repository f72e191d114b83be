use Rattle.std.proofs.Common.{◌≡◌, ◌+◌, ◌-◌, ◌<◌, ◌≤◌, arith}
use Rattle.mau_poset.specs.Order.{kind_of, kinds}
use Rattle.mau_sigcheck.proofs.MemberLemmas.{HasMembersBelow-set}
use Rattle.mau_sigcheck.proofs.checker.members_of_kinds.Goals as goal

pub loop-sort-preserved : goal.loop-sort-preserved
loop-sort-preserved c =
    let h = c.args.poset.now in
    let j = c.kind_of.result - c.sorts-first.result in
    let first : c.sorts-first.result ≡ h.sorts = c.sorts-first.ensures.value in
    let above : h.sorts ≤ c.kind_of.result = c.kind_of.ensures.kind.0 in
    let within : c.kind_of.result < h.sorts + kinds h = c.kind_of.ensures.kind.1 in
    let value : c.kind_of.result ≡ kind_of h c.loop-sort.sort = c.kind_of.ensures.value in
    HasMembersBelow-set h c.loop-sort.lists.items c.loop-sort.sort j c.index_mut.result.now c.push.new.self (omega arith) (omega arith)
    c.index_mut.ensures.value c.in_ok-push.ensures.items c.loop-sort.invariant
