use Rattle.mau_resting.specs.Later.{resting_kept}
use Rattle.mau_resting.proofs.resting.RestingWorld.own.Goals as goal

pub returns-clause-grows : goal.returns-clause-grows
returns-clause-grows g c =
    let h = c.own.ensures.grows in (
      h,
      resting_kept (g.W.World.words c.args.self.now.world c.args.store.now) (g.W.World.words c.own.new.self c.own.new.store)
          (g.met.W.World.keeps c.args.self.now.world c.own.new.self c.args.store.now c.own.new.store h) c.args.self.now.levels.items c.requires.ready.1,
    )
