use Rattle.std.proofs.Common.{arith, rules}
use Rattle.mau_module.specs.Stated.{IsLeftSide}
use Rattle.mau_module.proofs.Alls.{all_more, all_whole}
use Rattle.mau_module.proofs.own.have_left_sides.Goals as goal

pub loop-equation-preserved : goal.loop-equation-preserved
loop-equation-preserved c =
    all_more (IsLeftSide c.args.signature.now) c.args.equations.now c.loop-equation.equation-index c.equation-item.result (omega arith) c.equation-item.is c.loop-equation.invariant (search rules)

pub returns-clause-yes : goal.returns-clause-yes
returns-clause-yes c = λ _. all_whole (IsLeftSide c.args.signature.now) c.args.equations.now c.loop-equation.equation-index (omega arith) c.loop-equation.invariant
