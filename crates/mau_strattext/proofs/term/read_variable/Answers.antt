use Rattle.std.proofs.Common.{ap}
use Rattle.mau_strattext.specs.Faults.{other_term_there}
use Rattle.mau_strattext.specs.declared.fault.StratFault.TheVariants.{Unexpected}
use Rattle.mau_strattext.proofs.Told.{variable_fault}
use Rattle.mau_strattext.proofs.term.read_variable.Goals as goal

pub returns-in-None-clause-fault : goal.returns-in-None-clause-fault
returns-in-None-clause-fault c = record {
  none = other_term_there c.read_part.new.vars c.in-Ok.term c.in-Ok.ensures.term c.in-None.ensures;
  told = ap (λ n. Unexpected n) c.start.ensures;
}

pub returns-in-Err-clause-fault : goal.returns-in-Err-clause-fault
returns-in-Err-clause-fault c =
    variable_fault c.args.setting.now c.args.part c.args.vars.now c.in-Err.fault c.start-in-Err.result c.variable_fault.result c.start-in-Err.ensures c.variable_fault.ensures
    c.in-Err.ensures.fault
