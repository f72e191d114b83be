use Rattle.std.proofs.Common.{sym, subst}
use Rattle.mau_shapes.specs.Before.{AreFirstPieces}
use Rattle.mau_shapes.specs.Reading.{words_of}
use Rattle.mau_strattext.proofs.Top.{unexpected_first, earlier_told}
use Rattle.mau_strattext.proofs.BuildSteps.{no_fault}
use Rattle.mau_strattext.proofs.strategy.first_fault.Goals as goal

pub returns-in-Ok-Some : goal.returns-in-Ok-Some
returns-in-Ok-Some c =
    let s = c.args.setting.now in
    let before = subst (λ ws. AreFirstPieces ws c.items.result.now) c.requires.words (subst (λ ps. AreFirstPieces (words_of c.args.text.now c.args.tokens.now) ps) (sym c.items.ensures) c.in-Ok.ensures) in
    unexpected_first s c.args.vars.now c.args.place c.start.result c.items.result.now c.start.ensures c.requires.unexpected before
    (no_fault s (rw c.in-Ok-Some.field-0-is at c.in-Ok-Some.ensures.built))

pub returns-in-Ok : goal.returns-in-Ok
returns-in-Ok c =
    let s = c.args.setting.now in
    let before = subst (λ ws. AreFirstPieces ws c.items.result.now) c.requires.words (subst (λ ps. AreFirstPieces (words_of c.args.text.now c.args.tokens.now) ps) (sym c.items.ensures) c.in-Ok.ensures) in
    earlier_told s c.args.vars.now c.args.place c.items.result.now c.in-Err-build.fault c.earlier_fault.result c.earlier_fault.ensures c.requires.unexpected before
    c.in-Err-build.ensures.fault
