use Rattle.std.proofs.Common.{◌+◌, ◌*◌}
use Rattle.mau_program.specs.Depth.{depth}
use Rattle.mau_program.specs.Strategies.{strategy_of}
use Rattle.mau_searched.proofs.strategies.+calls.Given as goal

abbrev pub decreases-calls : goal.decreases-calls
decreases-calls l = 2 * depth l.strategy.now + 1

abbrev pub decreases-form_calls : goal.decreases-form_calls
decreases-form_calls l = 2 * depth (strategy_of l.form.now)
