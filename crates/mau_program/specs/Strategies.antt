-- The strategies of the code as trees.
use Rattle.std.specs.Prelude.{List, [], ◌∷◌}
use Rattle.mau_program.specs.declared.strategies.PartUse.{PartUse}
use Rattle.mau_program.specs.declared.strategies.StrategyForm.{StrategyForm}
use Rattle.mau_program.specs.declared.strategies.StrategyForm.TheVariants as form
use Rattle.mau_program.specs.Trees.{StrategyOf, idle, fail, every_rule, label, top_only, call, test, star, plus, to_normal, in_turn, either, or_else, branch, negation, attempt, test_of, part_rewrite, label_by, Strategies, no_strategies, strategy, Uses, no_uses, use_of}

abbrev pub strategies_of : List StrategyOf → Strategies
strategies_of [] = no_strategies
strategies_of (s ∷ ss) = strategy s (strategies_of ss)

abbrev pub uses_of : List PartUse → Uses
uses_of [] = no_uses
uses_of (u ∷ us) = use_of u.var u.strategy (uses_of us)

-- the strategy of a form, whose parts are seen as theirs already
abbrev pub strategy_of : StrategyForm → StrategyOf
strategy_of form.Idle = idle
strategy_of form.Fail = fail
strategy_of form.All = every_rule
strategy_of (form.Label l xs) = label l xs
strategy_of (form.Top s) = top_only s.value
strategy_of (form.Call f ts) = call f ts
strategy_of (form.Test k p c) = test k p c
strategy_of (form.Star s) = star s.value
strategy_of (form.Plus s) = plus s.value
strategy_of (form.Normal s) = to_normal s.value
strategy_of (form.Then s t) = in_turn s.value t.value
strategy_of (form.Or s t) = either s.value t.value
strategy_of (form.OrElse s t) = or_else s.value t.value
strategy_of (form.If s t u) = branch s.value t.value u.value
strategy_of (form.Not s) = negation s.value
strategy_of (form.Try s) = attempt s.value
strategy_of (form.TestOf s) = test_of s.value
strategy_of (form.PartRewrite k p c us) = part_rewrite k p c (uses_of us.items)
strategy_of (form.LabelBy l xs ss) = label_by l xs (strategies_of ss.items)
