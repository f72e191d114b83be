use Rattle.std.proofs.Common.{sym, subst}
use Rattle.mau_resting.specs.Rests.{AreResting}
use Rattle.mau_resting.specs.Later.{resting_kept}
use Rattle.mau_resting.proofs.Kept.{marked}
use Rattle.mau_resting.proofs.levels.mark.Goals as goal

pub levels_of-requires-clause-resting : goal.levels_of-requires-clause-resting
levels_of-requires-clause-resting g c = subst (AreResting (g.W.World.words c.args.world.now c.args.store.now)) (sym c.deref.ensures.value) c.requires.resting

pub returns-in-Some-clause-resting : goal.returns-in-Some-clause-resting
returns-in-Some-clause-resting g c =
    marked (g.W.World.words c.args.world.now c.args.store.now) (g.W.World.words c.levels_of.new.world c.levels_of.new.store)
    (g.met.W.World.keeps c.args.world.now c.levels_of.new.world c.args.store.now c.levels_of.new.store c.levels_of.ensures.grows)
    c.args.levels.now.items c.put.new.levels.items c.args.term.0 c.in-Some.needed c.requires.resting c.requires.value c.in-Some.ensures.rests c.put.ensures

pub returns-in-None-clause-resting : goal.returns-in-None-clause-resting
returns-in-None-clause-resting g c =
    resting_kept (g.W.World.words c.args.world.now c.args.store.now) (g.W.World.words c.levels_of.new.world c.levels_of.new.store)
    (g.met.W.World.keeps c.args.world.now c.levels_of.new.world c.args.store.now c.levels_of.new.store c.levels_of.ensures.grows) c.args.levels.now.items c.requires.resting
