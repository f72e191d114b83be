use Rattle.std.proofs.Common.{arith, ap, map, ◌∙◌, take_all}
use Rattle.mau_program.specs.Depth.{depth}
use Rattle.mau_program.specs.Strategies.{strategies_of, uses_of}
use Rattle.mau_program.proofs.Parts.{at_most_all, at_most_uses}
use Rattle.mau_renumber.specs.Strategies.{strategy_to}
use Rattle.mau_renumber.specs.Parts.{part_to}
use Rattle.mau_renumber.specs.Tables.{numbers_in}
use Rattle.mau_renumber.proofs.StrategyLists.{each_strategy, each_part}
use Rattle.mau_renumber.proofs.carry.Tables.+strategy.Goals as goal

pub strategies-strategy-requires : goal.strategies-strategy-requires
strategies-strategy-requires t c =
    (omega (arith, at_most_all c.args.strategies.now c.loop-strategy.strategy-index c.strategy-item.result c.loop-strategy-test.true, ap depth c.strategy-item.is), tt)

pub parts-part-requires : goal.parts-part-requires
parts-part-requires t c =
    (omega (arith, at_most_uses c.args.parts.now c.loop-part.part-index c.part-item.result c.loop-part-test.true, ap (λ u. depth u.strategy) c.part-item.is), tt)

pub strategies-returns : goal.strategies-returns
strategies-returns t c =
    ap strategies_of c.loop-strategy.invariant
    ∙ ap (λ ss. strategies_of (map (strategy_to (numbers_in c.args.self.now)) ss))
    (take_all c.loop-strategy.strategy-index c.args.strategies.now (omega (arith, c.loop-strategy-test.false)))
    ∙ each_strategy (numbers_in c.args.self.now) c.args.strategies.now

pub parts-returns : goal.parts-returns
parts-returns t c =
    ap uses_of c.loop-part.invariant
    ∙ ap (λ us. uses_of (map (part_to (numbers_in c.args.self.now)) us))
    (take_all c.loop-part.part-index c.args.parts.now (omega (arith, c.loop-part-test.false)))
    ∙ each_part (numbers_in c.args.self.now) c.args.parts.now
