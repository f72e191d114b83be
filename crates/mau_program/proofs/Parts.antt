-- No part of a list is deeper than the list: why a recursion over the parts of a strategy ends.
use Rattle.std.proofs.Common.{ℕ, zero, suc, ◌<◌, ◌≤◌, List, [], ◌∷◌, length, get_or, arith}
use Rattle.mau_program.specs.Trees.{StrategyOf}
use Rattle.mau_program.specs.Depth.{depth, depths, depth_of_uses}
use Rattle.mau_program.specs.Strategies.{strategies_of, uses_of}
use Rattle.mau_program.specs.declared.strategies.PartUse.{PartUse}

pub at_most_all : (ss : List StrategyOf) (i : ℕ) (s : StrategyOf) → i < length ss → depth (get_or ss i s) ≤ depths (strategies_of ss)
at_most_all [] i s h = absurd (omega arith)
at_most_all (x ∷ ss) zero s h = omega arith
at_most_all (x ∷ ss) (suc i) s h = omega (arith, at_most_all ss i s (omega arith))

pub at_most_uses : (us : List PartUse) (i : ℕ) (u : PartUse) → i < length us → depth (get_or us i u).strategy ≤ depth_of_uses (uses_of us)
at_most_uses [] i u h = absurd (omega arith)
at_most_uses (x ∷ us) zero u h = omega arith
at_most_uses (x ∷ us) (suc i) u h = omega (arith, at_most_uses us i u (omega arith))
