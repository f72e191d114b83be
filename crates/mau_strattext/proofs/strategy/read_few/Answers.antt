use Rattle.mau_strattext.proofs.Top.{few_read, few_fault, few_unexpected}
use Rattle.mau_strattext.proofs.strategy.read_few.Goals as goal

pub returns-in-Ok-clause-read : goal.returns-in-Ok-clause-read
returns-in-Ok-clause-read c = few_read c.args.setting.now c.args.vars.now c.read_whole.new.vars c.read_whole.result c.requires.few c.read_whole.ensures.reads

pub returns-in-Ok-clause-fault : goal.returns-in-Ok-clause-fault
returns-in-Ok-clause-fault c = few_fault c.args.setting.now c.args.vars.now c.read_whole.result c.requires.few c.read_whole.ensures.fault

pub returns-in-Err-Unexpected-clause-fault : goal.returns-in-Err-Unexpected-clause-fault
returns-in-Err-Unexpected-clause-fault c =
    few_unexpected c.args.setting.now c.args.vars.now c.in-Err-Unexpected.place c.first_fault.result c.requires.few c.first_fault.ensures
