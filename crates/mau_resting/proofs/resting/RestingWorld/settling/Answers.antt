use Rattle.mau_resting.specs.Later.{resting_kept}
use Rattle.mau_resting.proofs.resting.RestingWorld.settling.Goals as goal

pub returns-clause-grows : goal.returns-clause-grows
returns-clause-grows g c =
    let h = c.settling.ensures.grows in (
      h,
      resting_kept (g.W.World.words c.args.self.now.world c.args.store.now) (g.W.World.words c.settling.new.self c.settling.new.store)
          (g.met.W.World.keeps c.args.self.now.world c.settling.new.self c.args.store.now c.settling.new.store h) c.args.self.now.levels.items c.requires.ready.1,
    )
