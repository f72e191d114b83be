use Rattle.std.proofs.Common.{◌∷◌}
use Rattle.mau_shapes.specs.declared.pieces.Piece.TheVariants.{Variable}
use Rattle.mau_strattext.specs.Faults.{UsesFault}
use Rattle.mau_strattext.specs.Terms.{UseFault, IsVariableFault}
use Rattle.mau_strattext.proofs.Steps.{handed, variable_faults, value_behind, nothing_behind}
use Rattle.mau_strattext.proofs.uses.read_behind.Goals as goal

pub returns-in-Err-clause-answer : goal.returns-in-Err-clause-answer
returns-in-Err-clause-answer c =
    let s = c.args.setting.now in
    handed (UseFault s c.args.name c.in-Some-value.part c.args.vars.now) (UsesFault s (Variable c.args.name ∷ c.args.behind.now) c.args.vars.now)
    (λ f u. value_behind s c.args.name c.in-Some-value.part c.in-Some.second.now c.args.behind.now c.in-Some.field-0-1.now c.args.vars.now f c.in-Some-value.ensures
    c.in-Some.ensures.cases.0 u) c.in-Err.fault c.in-Err.ensures.fault

pub returns-in-Ok-read_variable-clause-answer : goal.returns-in-Ok-read_variable-clause-answer
returns-in-Ok-read_variable-clause-answer c =
    nothing_behind c.args.setting.now c.args.name c.args.behind.now c.args.vars.now c.read_variable.new.vars c.in-Ok-read_variable.field-0 c.in-None.ensures.cases c.in-Ok-read_variable.ensures.variable

pub returns-in-Err-read_variable-clause-answer : goal.returns-in-Err-read_variable-clause-answer
returns-in-Err-read_variable-clause-answer c =
    let s = c.args.setting.now in
    handed (IsVariableFault s c.args.name c.args.vars.now) (UsesFault s (Variable c.args.name ∷ c.args.behind.now) c.args.vars.now)
    (λ f u. variable_faults s c.args.name c.args.behind.now c.args.vars.now f u) c.in-Err-read_variable.fault c.in-Err-read_variable.ensures.fault
