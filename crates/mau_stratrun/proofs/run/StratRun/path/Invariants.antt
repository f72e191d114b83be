use Rattle.std.proofs.Common.{◌≡◌, map, take}
use Rattle.mau_stratrun.specs.States.{config_in}
use Rattle.mau_stratrun.specs.Courses.{state_in}
use Rattle.mau_stratrun.proofs.run.StratRun.path.Given as goal

abbrev pub invariant-loop-number : goal.invariant-loop-number
invariant-loop-number g l =
    map (λ t. (g.X.Leaves.world l.self.course.leaves).setting.tree t.0) l.path.items ≡ map (λ n. (config_in (state_in (g.X.Leaves.world l.self.course.leaves) l.self.course.forms l.self.course.interner) n).term) (take l.number-index l.way)
