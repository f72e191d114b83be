use Rattle.std.proofs.Common.{◌∙◌, sym}
use Rattle.mau_api.specs.Events.{entered}
use Rattle.mau_api.specs.declared.step.Place.TheVariants.{Whole}
use Rattle.mau_rules.proofs.Told.{behind_same, behind_step}
use Rattle.mau_rules.proofs.telling.tell_entry.Goals as goal

pub returns-clause-behind : goal.returns-clause-behind
returns-clause-behind g c =
    behind_step (g.W.StepWatcher.wanted c.args.watcher.now) (g.W.StepWatcher.told c.args.watcher.now) (g.W.StepWatcher.told c.enter.new.self) (entered c.args.term Whole) c.enter.result (sym c.wants.ensures ∙ c.if-not-wants.false) c.enter.ensures.kept c.enter.ensures.unchanged

pub returns-then-not-wants-clause-behind : goal.returns-then-not-wants-clause-behind
returns-then-not-wants-clause-behind g c = behind_same (g.W.StepWatcher.wanted c.args.watcher.now) (g.W.StepWatcher.told c.args.watcher.now)
