use Rattle.std.proofs.Common.{◌+◌, ◌*◌, max}
use Rattle.mau_program.specs.Depth.{depth}
use Rattle.mau_program.specs.Strategies.{strategy_of}
use Rattle.mau_searched.proofs.strategies.+unsearched.Given as goal

abbrev pub decreases-is_unsearched : goal.decreases-is_unsearched
decreases-is_unsearched l = 4 * depth l.strategy.now + 1

abbrev pub decreases-is_form_unsearched : goal.decreases-is_form_unsearched
decreases-is_form_unsearched l = 4 * depth (strategy_of l.form.now)

abbrev pub decreases-is_either_unsearched : goal.decreases-is_either_unsearched
decreases-is_either_unsearched l = 4 * max (depth l.first.now.value) (depth l.second.now.value) + 2
