use Rattle.std.proofs.Common.{◌≡◌, ◌<◌, length, List, subst, ap, arith}
use Rattle.mau_program.specs.declared.statements.Rule.{Rule}
use Rattle.mau_rules.proofs.ByTop.{numbers_begin, numbers_more, numbers_whole}
use Rattle.mau_rules.proofs.by_top.numbers_under.Goals as goal

pub loop-number-init : goal.loop-number-init
loop-number-init c = numbers_begin c.args.program.now c.args.top c.new-kept.result.items c.new-kept.ensures.items

pub may_rewrite-requires-clause-number : goal.may_rewrite-requires-clause-number
may_rewrite-requires-clause-number c = subst (λ (rs : List Rule). c.loop-number.number < length rs) c.items-count.ensures c.loop-number-test.true

pub loop-number-preserved : goal.loop-number-preserved
loop-number-preserved c =
    numbers_more c.args.program.now c.args.top c.loop-number.number c.may_rewrite.result c.loop-number.kept.items c.push_if.new.numbers.items
    (subst (λ (rs : List Rule). c.loop-number.number < length rs) c.items-count.ensures c.loop-number-test.true) c.may_rewrite.ensures c.in_ok-push_if.ensures c.loop-number.invariant

pub returns : goal.returns
returns c =
    let count : length c.items-count.result.now ≡ length c.args.program.now.rules = ap (λ (rs : List Rule). length rs) c.items-count.ensures in
    numbers_whole c.args.program.now c.args.top c.loop-number.number c.loop-number.kept.items (omega (arith, count, c.loop-number-test.false)) c.loop-number.invariant
