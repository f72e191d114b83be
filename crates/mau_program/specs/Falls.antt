-- Why a recursion over the parts of a strategy ends: each is less deep than the strategy.
use Rattle.std.specs.Prelude.{suc, ◌+◌, ◌≤◌, max, List, [], ◌∷◌}
use Rattle.std.proofs.Common.{arith}
use denote.Param.Weighed.{most}
use Rattle.mau_program.specs.Trees.{StrategyOf}
use Rattle.mau_program.specs.Depth.{depth, depths, depth_of_uses}
use Rattle.mau_program.specs.Strategies.{strategy_of, strategies_of, uses_of}
use Rattle.mau_program.specs.declared.strategies.PartUse.{PartUse}
use Rattle.mau_program.specs.declared.strategies.StrategyForm.{StrategyForm}
use Rattle.mau_program.specs.declared.strategies.StrategyForm.TheVariants as form
use Rattle.mau_program.specs.declared.strategies.Strategy.TheDeep.{deep-StrategyForm, deep-PartUse}

most_le-depths : (ss : List StrategyOf) → most (λ s. depth s + 1) ss ≤ suc (depths (strategies_of ss))
most_le-depths [] = omega arith
most_le-depths (s ∷ ss) = omega (arith, most_le-depths ss)

most_le-depth_of_uses : (us : List PartUse) → most deep-PartUse us ≤ suc (depth_of_uses (uses_of us))
most_le-depth_of_uses [] = omega arith
most_le-depth_of_uses (u ∷ us) = omega (arith, most_le-depth_of_uses us)

pub deep_le-depth : (f : StrategyForm) → max (deep-StrategyForm f) 0 ≤ depth (strategy_of f)
deep_le-depth form.Idle = omega arith
deep_le-depth form.Fail = omega arith
deep_le-depth form.All = omega arith
deep_le-depth (form.Label l xs) = omega arith
deep_le-depth (form.Top s) = omega arith
deep_le-depth (form.Call f ts) = omega arith
deep_le-depth (form.Test k p c) = omega arith
deep_le-depth (form.Star s) = omega arith
deep_le-depth (form.Plus s) = omega arith
deep_le-depth (form.Normal s) = omega arith
deep_le-depth (form.Then s t) = omega arith
deep_le-depth (form.Or s t) = omega arith
deep_le-depth (form.OrElse s t) = omega arith
deep_le-depth (form.If s t u) = omega arith
deep_le-depth (form.Not s) = omega arith
deep_le-depth (form.Try s) = omega arith
deep_le-depth (form.TestOf s) = omega arith
deep_le-depth (form.PartRewrite k p c us) = omega (arith, most_le-depth_of_uses us.items)
deep_le-depth (form.LabelBy l xs ss) = omega (arith, most_le-depths ss.items)
