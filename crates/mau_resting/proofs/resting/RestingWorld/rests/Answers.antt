use Rattle.std.proofs.lemmas.Bool.{leb-true}
use Rattle.mau_resting.proofs.Kept.{rests_at, found_at}
use Rattle.mau_resting.proofs.resting.RestingWorld.rests.Goals as goal

pub returns-then-known-ne0-clause-value : goal.returns-then-known-ne0-clause-value
returns-then-known-ne0-clause-value g c = λ e.
    (rests_at (g.W.World.words c.args.self.now.world c.args.store.now) c.args.self.now.levels.items c.requires.ready.1 c.args.term.0 c.in-Some.known.now c.args.level
    (found_at c.args.self.now.levels.items c.deref.result.now c.args.term.0 _ c.in-Some.known.now c.deref.ensures.value c.in-Some.ensures.lookup.0 c.in-Some.ensures.lookup.1) c.if-known-ne0.true (leb-true _ _ e)).1

pub returns-then-known-ne0-clause-known : goal.returns-then-known-ne0-clause-known
returns-then-known-ne0-clause-known g c = λ e.
    (rests_at (g.W.World.words c.args.self.now.world c.args.store.now) c.args.self.now.levels.items c.requires.ready.1 c.args.term.0 c.in-Some.known.now c.args.level
    (found_at c.args.self.now.levels.items c.deref.result.now c.args.term.0 _ c.in-Some.known.now c.deref.ensures.value c.in-Some.ensures.lookup.0 c.in-Some.ensures.lookup.1) c.if-known-ne0.true (leb-true _ _ e)).0
