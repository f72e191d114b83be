use Rattle.mau_resting.specs.Later.{resting_kept}
use Rattle.mau_resting.proofs.resting.RestingWorld.attempts.Goals as goal

pub returns-in-Ok-clause-grows : goal.returns-in-Ok-clause-grows
returns-in-Ok-clause-grows g c =
    let h = c.attempts.ensures.grows in (
      h,
      resting_kept (g.W.World.words c.args.self.now.world c.args.store.now) (g.W.World.words c.attempts.new.self c.attempts.new.store)
          (g.met.W.World.keeps c.args.self.now.world c.attempts.new.self c.args.store.now c.attempts.new.store h) c.args.self.now.levels.items c.requires.ready.1,
    )

pub returns-in-Err-clause-grows : goal.returns-in-Err-clause-grows
returns-in-Err-clause-grows g c =
    let h = c.attempts.ensures.grows in (
      h,
      resting_kept (g.W.World.words c.args.self.now.world c.args.store.now) (g.W.World.words c.attempts.new.self c.attempts.new.store)
          (g.met.W.World.keeps c.args.self.now.world c.attempts.new.self c.args.store.now c.attempts.new.store h) c.args.self.now.levels.items c.requires.ready.1,
    )

pub returns-in-Ok-clause-known : goal.returns-in-Ok-clause-known
returns-in-Ok-clause-known g c =
    let k = g.met.W.World.keeps c.args.self.now.world c.attempts.new.self c.args.store.now c.attempts.new.store c.attempts.ensures.grows in
    (c.in-Ok.ensures.known, (k.values c.args.term.0 c.requires.term).0, λ u. c.in-Ok.ensures.value)
