use Rattle.std.proofs.Common.{arith, ap}
use Rattle.mau_program.specs.Depth.{depth}
use Rattle.mau_program.proofs.Parts.{at_most_all, at_most_uses}
use Rattle.mau_program.proofs.strategies.+copy.Goals as goal

pub copy_all-copy-requires : goal.copy_all-copy-requires
copy_all-copy-requires t c =
    (omega (arith, at_most_all c.args.strategies.now c.loop-strategy.strategy-index c.strategy-item.result c.loop-strategy-test.true, ap depth c.strategy-item.is), tt)

pub copy_uses-copy-requires : goal.copy_uses-copy-requires
copy_uses-copy-requires t c =
    (omega (arith, at_most_uses c.args.uses.now c.loop-part.part-index c.part-item.result c.loop-part-test.true, ap (λ u. depth u.strategy) c.part-item.is), tt)
