use Rattle.mau_settling.proofs.Roots.{one_term, only_left}
use Rattle.mau_settling.proofs.Units.{each_settled}
use Rattle.mau_settling.proofs.States.{no_places}
use Rattle.mau_settling.proofs.settling.settle_term.Goals as goal

pub returns-clause-settling : goal.returns-clause-settling
returns-clause-settling c = λ table over closed identities.
    let s = c.args.program.now.sig in
    record {
      over = over;
      closed = closed;
      term = c.requires.term;
      roots = one_term s c.args.store.now c.new-roots.result.items c.push.new.self.items c.args.term c.new-roots.ensures.items c.in_ok-push.ensures.items c.requires.term;
      left = only_left s c.args.store.now table c.new-roots.result.items c.push.new.self.items c.args.term c.new-roots.ensures.items c.in_ok-push.ensures.items (each_settled s c.args.store.now table identities);
      path = no_places c.args.store.now table _ c.new.result.items c.new.ensures.items;
      current = tt;
    }
