use Rattle.std.proofs.Common.{Ok, subst}
use Rattle.mau_strattext.specs.Faults.{values_open}
use Rattle.mau_strattext.specs.Building.{UsesAnswer}
use Rattle.mau_strattext.proofs.Leaves.{assigned_there, values_fault}
use Rattle.mau_strattext.proofs.leaf.read_values.Goals as goal

pub returns-in-Ok-clause-answer : goal.returns-in-Ok-clause-answer
returns-in-Ok-clause-answer c =
    let s = c.args.setting.now in
    let ns = c.args.vars.now in
    let os = c.read_uses.new.vars in
    assigned_there s c.args.under_top c.args.place c.word.result.now c.args.pieces.now ns os c.in-Ok-Some.uses c.in-Ok.strategy c.word.ensures c.requires
    (subst (λ o. UsesAnswer s c.args.pieces.now ns os (Ok o)) c.in-Ok-Some.field-0-is c.in-Ok-Some.ensures.answer) c.in-Ok.ensures

pub returns-in-Ok-None-clause-answer : goal.returns-in-Ok-None-clause-answer
returns-in-Ok-None-clause-answer c =
    values_open c.args.place c.args.pieces.now c.args.vars.now c.requires
    (subst (λ o. UsesAnswer c.args.setting.now c.args.pieces.now c.args.vars.now c.read_uses.new.vars (Ok o)) c.in-Ok-None.field-0-is c.in-Ok-None.ensures.answer)

pub returns-in-Err-clause-answer : goal.returns-in-Err-clause-answer
returns-in-Err-clause-answer c =
    values_fault c.args.setting.now c.args.under_top c.args.place c.args.pieces.now c.args.vars.now c.in-Err.fault c.requires c.in-Err.ensures.answer
