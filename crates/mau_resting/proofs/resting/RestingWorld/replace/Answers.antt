use Rattle.mau_resting.specs.Later.{resting_kept}
use Rattle.mau_resting.proofs.resting.RestingWorld.replace.Goals as goal

pub returns-clause-grows : goal.returns-clause-grows
returns-clause-grows g c =
    let h = c.replace.ensures.grows in (
      h,
      resting_kept (g.W.World.words c.args.self.now.world c.args.store.now) (g.W.World.words c.replace.new.self c.replace.new.store)
          (g.met.W.World.keeps c.args.self.now.world c.replace.new.self c.args.store.now c.replace.new.store h) c.args.self.now.levels.items c.requires.ready.1,
    )
