use Rattle.std.proofs.Common.{◌∙◌}
use Rattle.mau_renumber.proofs.Apart.{added_apart, never_all_taken}
use Rattle.mau_renumber.proofs.carry.add_apart.Goals as goal

pub returns-then-len-before : goal.returns-then-len-before
returns-then-len-before c =
    let h = c.loop-count.invariant in
    added_apart c.loop-count.vars c.args.vars.now c.add.new.self c.args.name.now c.as_str.result.now c.args.sort c.loop-count._count
    c.len-before.result c.len.result h.same (c.as_str.ensures.value ∙ h.text) h.taken h.count c.in_ok-add.ensures.pairs c.len.ensures.counted c.if-len-before.true
    c.loop-count-test.true

pub unreachable-requires : goal.unreachable-requires
unreachable-requires c =
    let h = c.loop-count.invariant in
    never_all_taken c.loop-count.vars c.args.name.now c.args.sort c.loop-count._count c.len-before.result h.taken h.count c.loop-count-test.false
