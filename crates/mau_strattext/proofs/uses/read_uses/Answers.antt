use Rattle.std.proofs.Common.{◌-◌, Ok, All, length, drop, take, sym, subst}
use Rattle.std.specs.Prelude.{IfSome}
use Rattle.std.proofs.lemmas.List.Elements.{All-push}
use Rattle.mau_strattext.specs.Lawful.{IsTypedAssign}
use Rattle.mau_strattext.specs.Building.{FirstUse}
use Rattle.mau_strattext.proofs.Steps.{uses_go_on, uses_end, uses_open, uses_fault, tail_whole}
use Rattle.mau_strattext.proofs.uses.read_uses.Goals as goal

pub loop-first-preserved : goal.loop-first-preserved
loop-first-preserved c =
    let s = c.args.setting.now in
    let P = IsTypedAssign s.context.signature in
    let us = c.in-Some.behind.now in
    let first = c.in-Some.first.now in
    let ms = c.loop-first.vars in
    let ms' = c.read_first.new.vars in
    let xs = c.loop-first.uses.items in
    let read = c.in-Ok-Some.read in
    record {
      goes = uses_go_on s c.args.pieces.now c.args.vars.now c.loop-first.rest.now us (take (length us - 1) (drop 1 us)) first ms ms' xs c.push.new.self.items read
          c.loop-first.invariant.goes c.in-Some.ensures.cases.0 (tail_whole us) c.in_ok-push-in-Ok-Some.ensures.items
          (subst (λ o. FirstUse s first us ms ms' (Ok o)) c.in-Ok-Some.field-0-is c.in-Ok-Some.ensures.answer);
      typed = subst (All P) (sym c.in_ok-push-in-Ok-Some.ensures.items)
          (All-push P xs read c.loop-first.invariant.typed (subst (λ o. IfSome o P) c.in-Ok-Some.field-0-is c.in-Ok-Some.ensures.typed));
    }

pub returns-in-Ok-None-clause-answer : goal.returns-in-Ok-None-clause-answer
returns-in-Ok-None-clause-answer c =
    let s = c.args.setting.now in
    let us = c.in-Some.behind.now in
    let first = c.in-Some.first.now in
    let ms = c.loop-first.vars in
    let ms' = c.read_first.new.vars in
    uses_open s c.args.pieces.now c.args.vars.now c.loop-first.rest.now us first ms ms' c.loop-first.uses.items c.loop-first.invariant.goes c.in-Some.ensures.cases.0
    (subst (λ o. FirstUse s first us ms ms' (Ok o)) c.in-Ok-None.field-0-is c.in-Ok-None.ensures.answer)

pub returns-in-Err-clause-answer : goal.returns-in-Err-clause-answer
returns-in-Err-clause-answer c =
    let s = c.args.setting.now in
    uses_fault s c.args.pieces.now c.args.vars.now c.loop-first.rest.now c.in-Some.behind.now c.in-Some.first.now c.loop-first.vars c.read_first.new.vars
    c.loop-first.uses.items c.in-Err.fault c.loop-first.invariant.goes c.in-Some.ensures.cases.0 c.in-Err.ensures.answer

pub returns-clause-answer : goal.returns-clause-answer
returns-clause-answer c =
    uses_end c.args.setting.now c.args.pieces.now c.args.vars.now c.loop-first.rest.now c.loop-first.vars c.loop-first.uses.items c.new.result c.loop-first.invariant.goes
    c.in_default.ensures.cases c.new.ensures
