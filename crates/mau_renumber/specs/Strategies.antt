-- Strategies, and their declarations and definitions, in other numbers of sorts, kinds and operators. Names and labels stay.
use Rattle.std.specs.Prelude.{ℕ, List, map}
use Rattle.mau_terms.specs.declared.ids.VarId.{VarId}
use Rattle.mau_program.specs.Trees.{StrategyOf, idle, fail, every_rule, label, top_only, call, test, star, plus, to_normal, in_turn, either, or_else, branch, negation, attempt, test_of, part_rewrite, label_by, Strategies, no_strategies, strategy, Uses, no_uses, use_of}
use Rattle.mau_program.specs.declared.strategies.Assign.{Assign}
use Rattle.mau_program.specs.declared.definitions.StratDecl.{StratDecl}
use Rattle.mau_program.specs.declared.definitions.StratDef.{StratDef}
use Rattle.mau_renumber.specs.Carried.{Numbers, variables_to, tree_to, term_to, fragment_to}

-- an assignment keeps the name of its variable, which is one of a rule
abbrev pub assign_to : Numbers → Assign → Assign
assign_to n a = record a { sort = n.sort a.sort; value = term_to n a.value }

-- a variable of a pattern has its new sort
abbrev pub variable_to : Numbers → VarId → VarId
variable_to n v = record { index = v.index; sort = n.sort v.sort }

-- a strategy, by its terms
abbrev mutual
  pub strategy_to : Numbers → StrategyOf → StrategyOf
  strategy_to n idle = idle
  strategy_to n fail = fail
  strategy_to n every_rule = every_rule
  strategy_to n (label l xs) = label l (map (assign_to n) xs)
  strategy_to n (top_only s) = top_only (strategy_to n s)
  strategy_to n (call f ts) = call f (map (tree_to n) ts)
  strategy_to n (test k p c) = test k (term_to n p) (map (fragment_to n) c)
  strategy_to n (star s) = star (strategy_to n s)
  strategy_to n (plus s) = plus (strategy_to n s)
  strategy_to n (to_normal s) = to_normal (strategy_to n s)
  strategy_to n (in_turn s t) = in_turn (strategy_to n s) (strategy_to n t)
  strategy_to n (either s t) = either (strategy_to n s) (strategy_to n t)
  strategy_to n (or_else s t) = or_else (strategy_to n s) (strategy_to n t)
  strategy_to n (branch s t u) = branch (strategy_to n s) (strategy_to n t) (strategy_to n u)
  strategy_to n (negation s) = negation (strategy_to n s)
  strategy_to n (attempt s) = attempt (strategy_to n s)
  strategy_to n (test_of s) = test_of (strategy_to n s)
  strategy_to n (part_rewrite k p c us) = part_rewrite k (term_to n p) (map (fragment_to n) c) (uses_to n us)
  strategy_to n (label_by l xs ss) = label_by l (map (assign_to n) xs) (strategies_to n ss)

  pub strategies_to : Numbers → Strategies → Strategies
  strategies_to n no_strategies = no_strategies
  strategies_to n (strategy s ss) = strategy (strategy_to n s) (strategies_to n ss)

  pub uses_to : Numbers → Uses → Uses
  uses_to n no_uses = no_uses
  uses_to n (use_of v s us) = use_of (variable_to n v) (strategy_to n s) (uses_to n us)

-- ---- definitions

abbrev pub definition_to : Numbers → StratDef → StratDef
definition_to n d = record d {
  args = map (tree_to n) d.args;
  body = strategy_to n d.body;
  cond = map (fragment_to n) d.cond;
  vars = variables_to n.sort d.vars;
}

-- a declaration, by the numbers of its sorts
abbrev pub strategy_declaration_to : Numbers → StratDecl → StratDecl
strategy_declaration_to n d = record d { args = map n.sort d.args; sort = n.sort d.sort }
