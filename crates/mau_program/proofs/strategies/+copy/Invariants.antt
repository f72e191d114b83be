use Rattle.std.proofs.Common.{◌≡◌, ◌+◌, ◌*◌, take}
use Rattle.mau_program.specs.Depth.{depth, depths, depth_of_uses}
use Rattle.mau_program.specs.Strategies.{strategy_of, strategies_of, uses_of}
use Rattle.mau_program.proofs.strategies.+copy.Given as goal

abbrev pub decreases-Strategy::copy : goal.decreases-Strategy::copy
decreases-Strategy::copy l = 3 * depth l.self.now + 1

abbrev pub decreases-copy_form : goal.decreases-copy_form
decreases-copy_form l = 3 * depth (strategy_of l.form.now)

abbrev pub decreases-copy_boxed : goal.decreases-copy_boxed
decreases-copy_boxed l = 3 * depth l.strategy.now.value + 2

abbrev pub decreases-copy_all : goal.decreases-copy_all
decreases-copy_all l = 3 * depths (strategies_of l.strategies.now) + 2

abbrev pub decreases-copy_uses : goal.decreases-copy_uses
decreases-copy_uses l = 3 * depth_of_uses (uses_of l.uses.now) + 2

abbrev pub invariant-copy_all-loop-strategy : goal.invariant-copy_all-loop-strategy
invariant-copy_all-loop-strategy l = l.copies.items ≡ take l.strategy-index l.strategies

abbrev pub invariant-copy_uses-loop-part : goal.invariant-copy_uses-loop-part
invariant-copy_uses-loop-part l = l.copies.items ≡ take l.part-index l.uses
