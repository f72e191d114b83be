use Rattle.std.proofs.Common.{sym, ap, ◌∙◌}
use Rattle.std.proofs.lemmas.List.{take-map}
use Rattle.mau_prove.specs.Recorded.{event_of, events_of}
use Rattle.mau_prove.proofs.recorder.RecorderStepWatcher.back.Goals as goal

pub returns-clause-kept : goal.returns-clause-kept
returns-clause-kept c = ap events_of c.truncate.ensures.items ∙ sym (take-map event_of c.args.mark c.args.self.now.events.items)
