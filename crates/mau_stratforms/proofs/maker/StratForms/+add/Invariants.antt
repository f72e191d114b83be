use Rattle.std.proofs.Common.{◌+◌, ◌*◌, max}
use Rattle.mau_program.specs.Depth.{depth}
use Rattle.mau_stratforms.proofs.maker.StratForms.+add.Given as goal

abbrev pub decreases-add : goal.decreases-add
decreases-add l = 2 * depth l.strategy.now

abbrev pub decreases-add_one : goal.decreases-add_one
decreases-add_one l = 2 * depth l.e.now + 1

abbrev pub decreases-add_two : goal.decreases-add_two
decreases-add_two l = 2 * max (depth l.e.now) (depth l.f.now) + 1

abbrev pub decreases-add_branch : goal.decreases-add_branch
decreases-add_branch l = 2 * max (depth l.e.now) (max (depth l.f.now) (depth l.g.now)) + 1
