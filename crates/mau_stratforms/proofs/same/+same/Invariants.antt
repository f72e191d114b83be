use Rattle.std.proofs.Common.{◌≡◌, ◌+◌, ◌*◌, take, map}
use Rattle.mau_program.specs.Depth.{depth, depths, depth_of_uses}
use Rattle.mau_program.specs.Strategies.{strategy_of, strategies_of, uses_of}
use Rattle.mau_stratforms.specs.Meanings.{meaning_of}
use Rattle.mau_stratforms.specs.Parts.{part_of}
use Rattle.mau_stratforms.proofs.same.+same.Given as goal

abbrev pub decreases-same : goal.decreases-same
decreases-same l = 4 * depth l.a.now + 1

abbrev pub decreases-same_form : goal.decreases-same_form
decreases-same_form l = 4 * depth (strategy_of l.a.now)

abbrev pub decreases-same_all : goal.decreases-same_all
decreases-same_all l = 4 * depths (strategies_of l.a.now) + 3

abbrev pub decreases-same_use : goal.decreases-same_use
decreases-same_use l = 4 * depth l.a.now.strategy + 2

abbrev pub decreases-same_uses : goal.decreases-same_uses
decreases-same_uses l = 4 * depth_of_uses (uses_of l.a.now) + 3

abbrev pub invariant-same_all-loop-i : goal.invariant-same_all-loop-i
invariant-same_all-loop-i l = map meaning_of (take l.i l.a) ≡ map meaning_of (take l.i l.b)

abbrev pub invariant-same_uses-loop-i : goal.invariant-same_uses-loop-i
invariant-same_uses-loop-i l = map part_of (take l.i l.a) ≡ map part_of (take l.i l.b)
