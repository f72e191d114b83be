use Rattle.std.proofs.Common.{◌≡◌, take}
use Rattle.mau_module.specs.Named.{labels_of}
use Rattle.mau_session.proofs.strategy_reading.labels_of.Given as goal

abbrev pub invariant-loop-rule : goal.invariant-loop-rule
invariant-loop-rule l = l.labels.items ≡ labels_of (take l.rule-index l.rules)
