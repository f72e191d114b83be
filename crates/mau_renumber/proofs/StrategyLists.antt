-- Lists of strategies in other numbers.
use Rattle.std.proofs.Common.{◌≡◌, ℕ, List, [], ◌∷◌, map, refl, ap}
use Rattle.mau_program.specs.Trees.{StrategyOf, strategy, use_of}
use Rattle.mau_program.specs.Strategies.{strategies_of, uses_of}
use Rattle.mau_program.specs.declared.strategies.PartUse.{PartUse}
use Rattle.mau_renumber.specs.Carried.{Numbers}
use Rattle.mau_renumber.specs.Strategies.{variable_to, strategy_to, strategies_to, uses_to}
use Rattle.mau_renumber.specs.Parts.{part_to}

-- one by one
pub each_strategy : (n : Numbers) (ss : List StrategyOf) → strategies_of (map (strategy_to n) ss) ≡ strategies_to n (strategies_of ss)
each_strategy n [] = refl
each_strategy n (s ∷ ss) = ap (strategy (strategy_to n s)) (each_strategy n ss)

pub each_part : (n : Numbers) (us : List PartUse) → uses_of (map (part_to n) us) ≡ uses_to n (uses_of us)
each_part n [] = refl
each_part n (u ∷ us) = ap (use_of (variable_to n u.var) (strategy_to n u.strategy)) (each_part n us)
