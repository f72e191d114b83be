use Rattle.std.proofs.Common.{◌≡◌, true, false}
use Rattle.mau_machine.specs.Machine.{whole}
use Rattle.mau_machine.specs.Steps.{Follows, AreAnswered, StayKnown, StayTold}
use Rattle.mau_machine.proofs.machine.run.Given as goal

-- what is left gives what was to be given, all is known, and what was told is told of it
abbrev pub invariant-loop : goal.invariant-loop
invariant-loop g l =
    g.W.World.grows l.fn.world l.fn.store l.world l.store
    × AreAnswered (g.W.World.words l.world l.store) l.machine.frames.items l.task l.machine.rewrites l.budget
    × Follows (g.W.World.words l.fn.world l.fn.store).rules.program (λ n. whole (g.W.World.words l.fn.world l.fn.store) n l.fn.machine.frames.items l.fn.task l.fn.machine.rewrites l.fn.budget)
    (λ n. whole (g.W.World.words l.world l.store) n l.machine.frames.items l.task l.machine.rewrites l.budget)
    × StayKnown (g.W.World.words l.fn.world l.fn.store) (g.W.World.words l.world l.store) l.fn.machine.frames.items l.fn.task l.machine.frames.items l.task
    × (g.T.StepWatcher.wanted l.watcher ≡ g.T.StepWatcher.wanted l.fn.watcher)
    × (g.T.StepWatcher.wanted l.fn.watcher ≡ false → g.T.StepWatcher.told l.watcher ≡ g.T.StepWatcher.told l.fn.watcher)
    × (g.T.StepWatcher.wanted l.fn.watcher ≡ true → StayTold (g.W.World.words l.fn.world l.fn.store) (g.W.World.words l.world l.store) l.fn.store l.store (g.W.World.table l.fn.world) (g.W.World.table l.world)
    l.fn.machine.frames.items l.fn.task l.fn.machine.rewrites (g.T.StepWatcher.told l.fn.watcher) l.machine.frames.items l.task l.machine.rewrites (g.T.StepWatcher.told l.watcher))
