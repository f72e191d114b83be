use Rattle.std.proofs.Common.{◌≡◌, ℕ, List, Some}
use Rattle.std.specs.Prelude.{slice_get}
use Rattle.mau_parse.specs.declared.goals.Goal.TheVariants.{Kind}
use Rattle.mau_strattext.specs.Reads.{kind_in}
use Rattle.mau_strattext.specs.Terms.{IsTermFault, IsVariableFault, UseFault, of_variable, of_value}
use Rattle.mau_strattext.proofs.Steps.{handed, err_handed}
use Rattle.mau_strattext.proofs.uses.read_use.Goals as goal

pub returns-in-Ok-clause-fault : goal.returns-in-Ok-clause-fault
returns-in-Ok-clause-fault c =
    let s = c.args.setting.now in
    let ms = c.read_variable.new.vars in
    let v = c.in-Ok.variable in
    err_handed (λ f. (x : List ℕ × ℕ) × (slice_get ms v.index ≡ Some x) × IsTermFault s c.args.value (Kind (kind_in s x.1)) ms f)
    (UseFault s c.args.name c.args.value c.args.vars.now) (λ f u. of_value ms v u.0 c.in-Ok.ensures.variable u.1 u.2) c.read_value.result c.read_value.ensures.fault

pub returns-in-Err-clause-fault : goal.returns-in-Err-clause-fault
returns-in-Err-clause-fault c =
    let s = c.args.setting.now in
    handed (IsVariableFault s c.args.name c.args.vars.now) (UseFault s c.args.name c.args.value c.args.vars.now) (λ f u. of_variable u) c.in-Err.fault c.in-Err.ensures.fault
