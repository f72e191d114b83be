use Rattle.std.proofs.Common.{◌+◌, ◌*◌, max}
use Rattle.mau_program.specs.Depth.{depth}
use Rattle.mau_program.specs.Strategies.{strategy_of}
use Rattle.mau_definition.proofs.bound.+bound.Given as goal

abbrev pub decreases-is_bound_in : goal.decreases-is_bound_in
decreases-is_bound_in l = 4 * depth l.strategy.now + 1

abbrev pub decreases-is_form_bound : goal.decreases-is_form_bound
decreases-is_form_bound l = 4 * depth (strategy_of l.form.now)

abbrev pub decreases-are_both_bound : goal.decreases-are_both_bound
decreases-are_both_bound l = 4 * max (depth l.first.now.value) (depth l.second.now.value) + 2
