use Rattle.std.proofs.Common.{sym, ◌∙◌, subst}
use Rattle.mau_cond.proofs.Lists.{no_end}
use Rattle.mau_cond.specs.Steps.{failing, IsAnswered}
use Rattle.mau_cond.proofs.Steps.{due_answered, failing_awaits}
use Rattle.mau_cond.proofs.run.CondRun.back.Goals as goal

pub returns : goal.returns
returns c = record {
  cond = c.go_back.ensures.cond;
  answered = λ s nodes table h.
      let n = c.go_back.new.self in
      subst (IsAnswered s nodes table (failing c.args.self.now) n) (sym c.due.ensures.value)
      (due_answered s nodes table (failing c.args.self.now) n.cond n.bound n.stations n.at n.stage c.go_back.ensures.path c.go_back.ensures.waits (c.go_back.ensures.goes nodes)
      (c.go_back.ensures.known s nodes table h) (failing_awaits c.args.self.now) (c.go_back.ensures.stations ∙ sym (no_end c.args.self.now.stations)));
}
