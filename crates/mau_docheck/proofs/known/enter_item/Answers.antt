use Rattle.mau_docheck.specs.Known.{faulty_passes}
use Rattle.mau_docheck.proofs.known.enter_item.Goals as goal

pub returns-in-Ok-clause-leaves : goal.returns-in-Ok-clause-leaves
returns-in-Ok-clause-leaves c = c.enter_body.ensures.leaves c.args.item.now c.in-Ok.is

pub returns-in-Err-clause-leaves : goal.returns-in-Err-clause-leaves
returns-in-Err-clause-leaves c = faulty_passes c.in-Err.field-0 c.in-Err.is
