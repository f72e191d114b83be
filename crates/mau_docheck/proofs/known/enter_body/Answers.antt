use Rattle.std.proofs.Common.{Ok, ap, ◌∙◌}
use Rattle.mau_docheck.specs.Known.{command_passes, setting_passes, quits}
use Rattle.mau_docheck.proofs.known.enter_body.Goals as goal

pub returns-in-Module-clause-leaves : goal.returns-in-Module-clause-leaves
returns-in-Module-clause-leaves c item is = c.enter_module.ensures.leaves item (is ∙ ap Ok c.in-Module.is)

pub returns-in-Command-clause-leaves : goal.returns-in-Command-clause-leaves
returns-in-Command-clause-leaves c item is = command_passes c.in-Command.field-0 (is ∙ ap Ok c.in-Command.is)

pub returns-in-Setting-clause-leaves : goal.returns-in-Setting-clause-leaves
returns-in-Setting-clause-leaves c item is = setting_passes c.in-Setting.field-0 (is ∙ ap Ok c.in-Setting.is)

pub returns-in-Quit-clause-leaves : goal.returns-in-Quit-clause-leaves
returns-in-Quit-clause-leaves c item is = quits (is ∙ ap Ok c.in-Quit.is)
