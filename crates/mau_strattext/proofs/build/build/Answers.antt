use Rattle.std.proofs.Common.{Ok, reverse, subst}
use Rattle.mau_strattext.specs.Building.{NextAnswer}
use Rattle.mau_strattext.proofs.BuildSteps.{build_open, build_fault, build_end}
use Rattle.mau_strattext.proofs.build.build.Goals as goal

pub returns-in-Ok-None-clause-built : goal.returns-in-Ok-None-clause-built
returns-in-Ok-None-clause-built c =
    let s = c.args.setting.now in
    let t = c.loop-first.under_top in
    let first = c.in-Some.first.now in
    let behind = c.in-Some.behind.now in
    let xs = reverse c.loop-first.stack.items in
    let ms = c.loop-first.vars in
    build_open s c.args.pieces.now c.args.vars.now t c.loop-first.rest.now behind first xs ms c.build_next.new.vars c.loop-first.invariant.goes c.in-Some.ensures.cases.0
    (subst (λ o. NextAnswer s t first behind xs ms (reverse c.build_next.new.stack.items) c.build_next.new.vars (Ok o)) c.in-Ok-None.field-0-is c.in-Ok-None.ensures.answer)

pub returns-in-Err-clause-fault : goal.returns-in-Err-clause-fault
returns-in-Err-clause-fault c =
    build_fault c.args.setting.now c.args.pieces.now c.args.vars.now c.loop-first.under_top c.loop-first.rest.now c.in-Some.behind.now c.in-Some.first.now
    (reverse c.loop-first.stack.items) c.loop-first.vars c.build_next.new.vars c.in-Err.fault c.loop-first.invariant.goes c.in-Some.ensures.cases.0 c.in-Err.ensures.answer

pub returns-clause-built : goal.returns-clause-built
returns-clause-built c =
    build_end c.args.setting.now c.args.pieces.now c.args.vars.now c.loop-first.under_top c.loop-first.rest.now (reverse c.loop-first.stack.items) c.loop-first.vars
    c.loop-first.invariant.goes c.in_default.ensures.cases
