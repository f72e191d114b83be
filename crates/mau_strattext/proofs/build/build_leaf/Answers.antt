use Rattle.std.proofs.Common.{Ok, reverse, take, subst}
use Rattle.mau_strattext.specs.Building.{LeafAnswer}
use Rattle.mau_strattext.proofs.BuildSteps.{leaf_next, open_next, fault_next}
use Rattle.mau_strattext.proofs.build.build_leaf.Goals as goal

pub returns-in-Ok-clause-answer : goal.returns-in-Ok-clause-answer
returns-in-Ok-clause-answer c =
    let s = c.args.setting.now in
    let t = c.args.under_top in
    let first = c.args.first in
    let ps = c.args.behind.now in
    let n = c.inner_count-count.result in
    let ns = c.args.vars.now in
    let ms = c.read_leaf.new.vars in
    leaf_next s t first ps (reverse c.args.stack.now.items) (reverse c.push.new.stack.items) ns ms c.in-Ok-Some.strategy n c.inner_count-count.ensures.within
    c.inner_count-count.ensures.inner c.inner_count-count.ensures.behind
    (subst (λ o. LeafAnswer s t first (take n ps) ns ms (Ok o)) c.in-Ok-Some.field-0-is c.in-Ok-Some.ensures.answer) c.in-Ok.ensures.latest

pub returns-then-count-behind-clause-answer : goal.returns-then-count-behind-clause-answer
returns-then-count-behind-clause-answer c =
    let s = c.args.setting.now in
    let t = c.args.under_top in
    let first = c.args.first in
    let ps = c.args.behind.now in
    let n = c.inner_count-count.result in
    let ns = c.args.vars.now in
    open_next s t first ps ns n c.inner_count-count.ensures.inner c.inner_count-count.ensures.behind c.if-count-behind.true
    (subst (λ o. LeafAnswer s t first (take n ps) ns c.read_leaf.new.vars (Ok o)) c.in-Ok-None.field-0-is c.in-Ok-None.ensures.answer)

pub returns-in-Err-clause-answer : goal.returns-in-Err-clause-answer
returns-in-Err-clause-answer c =
    fault_next c.args.setting.now c.args.under_top c.args.first c.args.behind.now c.args.vars.now c.inner_count-count.result c.in-Err.fault c.inner_count-count.ensures.inner
    c.in-Err.ensures.answer
