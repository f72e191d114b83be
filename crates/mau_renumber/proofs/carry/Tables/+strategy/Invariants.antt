use Rattle.std.proofs.Common.{◌≡◌, ◌+◌, ◌*◌, take, map}
use Rattle.mau_program.specs.Depth.{depth, depths, depth_of_uses}
use Rattle.mau_program.specs.Strategies.{strategy_of, strategies_of, uses_of}
use Rattle.mau_renumber.specs.Strategies.{strategy_to}
use Rattle.mau_renumber.specs.Parts.{part_to}
use Rattle.mau_renumber.specs.Tables.{numbers_in}
use Rattle.mau_renumber.proofs.carry.Tables.+strategy.Given as goal

abbrev pub decreases-strategy : goal.decreases-strategy
decreases-strategy l = 4 * depth l.strategy.now + 1

abbrev pub decreases-form : goal.decreases-form
decreases-form l = 4 * depth (strategy_of l.form.now)

abbrev pub decreases-boxed : goal.decreases-boxed
decreases-boxed l = 4 * depth l.strategy.now.value + 2

abbrev pub decreases-part : goal.decreases-part
decreases-part l = 4 * depth l.part.now.strategy + 2

abbrev pub decreases-strategies : goal.decreases-strategies
decreases-strategies l = 4 * depths (strategies_of l.strategies.now) + 3

abbrev pub decreases-parts : goal.decreases-parts
decreases-parts l = 4 * depth_of_uses (uses_of l.parts.now) + 3

abbrev pub invariant-strategies-loop-strategy : goal.invariant-strategies-loop-strategy
invariant-strategies-loop-strategy l = l.found.items ≡ map (strategy_to (numbers_in l.self)) (take l.strategy-index l.strategies)

abbrev pub invariant-parts-loop-part : goal.invariant-parts-loop-part
invariant-parts-loop-part l = l.found.items ≡ map (part_to (numbers_in l.self)) (take l.part-index l.parts)
