use Rattle.mau_sorts.proofs.Settling.{kept_same}
use Rattle.mau_cond.specs.Steps.{opened}
use Rattle.mau_cond.proofs.Grown.{known_grown}
use Rattle.mau_cond.proofs.Steps.{known_after}
use Rattle.mau_cond.proofs.run.CondRun.ask.Goals as goal

pub returns-in-Open-clause-known : goal.returns-in-Open-clause-known
returns-in-Open-clause-known c =
    let p = c.args.self.now in
    known_after c.args.sig.now c.look.new.store c.args.sorts.now (opened p c.self.inside.at) p c.look.new.self c.look.result c.look.ensures.answered c.look.ensures.unchanged
    (known_grown c.args.sig.now c.args.store.now c.look.new.store c.args.sorts.now c.args.sorts.now c.look.ensures.extends (kept_same c.args.sorts.now) p c.requires.known)

pub returns-in-First-clause-known : goal.returns-in-First-clause-known
returns-in-First-clause-known c =
    let p = c.args.self.now in
    known_after c.args.sig.now c.with_first.new.store c.args.sorts.now p p c.with_first.new.self c.with_first.result c.with_first.ensures.answered c.with_first.ensures.unchanged
    (known_grown c.args.sig.now c.args.store.now c.with_first.new.store c.args.sorts.now c.args.sorts.now c.with_first.ensures.extends (kept_same c.args.sorts.now) p c.requires.known)

pub returns-in-Both-clause-known : goal.returns-in-Both-clause-known
returns-in-Both-clause-known c =
    let p = c.args.self.now in
    known_after c.args.sig.now c.with_both.new.store c.args.sorts.now p p c.with_both.new.self c.with_both.result c.with_both.ensures.answered c.with_both.ensures.unchanged
    (known_grown c.args.sig.now c.args.store.now c.with_both.new.store c.args.sorts.now c.args.sorts.now c.with_both.ensures.extends (kept_same c.args.sorts.now) p c.requires.known)
