-- How deep a strategy is: the measure of a recursion over its parts.
use Rattle.std.specs.Prelude.{ℕ, suc, max}
use Rattle.mau_program.specs.Trees.{StrategyOf, idle, fail, every_rule, label, top_only, call, test, star, plus, to_normal, in_turn, either, or_else, branch, negation, attempt, test_of, part_rewrite, label_by, Strategies, no_strategies, strategy, Uses, no_uses, use_of}

-- one without parts has 1
abbrev mutual
  pub depth : StrategyOf → ℕ
  depth idle = 1
  depth fail = 1
  depth every_rule = 1
  depth (label l xs) = 1
  depth (top_only s) = suc (depth s)
  depth (call f ts) = 1
  depth (test k p c) = 1
  depth (star s) = suc (depth s)
  depth (plus s) = suc (depth s)
  depth (to_normal s) = suc (depth s)
  depth (in_turn s t) = suc (max (depth s) (depth t))
  depth (either s t) = suc (max (depth s) (depth t))
  depth (or_else s t) = suc (max (depth s) (depth t))
  depth (branch s t u) = suc (max (depth s) (max (depth t) (depth u)))
  depth (negation s) = suc (depth s)
  depth (attempt s) = suc (depth s)
  depth (test_of s) = suc (depth s)
  depth (part_rewrite k p c us) = suc (depth_of_uses us)
  depth (label_by l xs ss) = suc (depths ss)

  -- the depth of the deepest, or 0 where there is none
  pub depths : Strategies → ℕ
  depths no_strategies = 0
  depths (strategy s ss) = max (depth s) (depths ss)

  pub depth_of_uses : Uses → ℕ
  depth_of_uses no_uses = 0
  depth_of_uses (use_of v s us) = max (depth s) (depth_of_uses us)
