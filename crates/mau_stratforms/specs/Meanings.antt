-- Strategies of a program, and their definitions, as the definitions of evaluation see them: by the trees of their terms.
use Rattle.std.specs.Prelude.{List, map}
use Rattle.mau_terms.specs.View.{tree_of, variable_of}
use Rattle.mau_program.specs.declared.strategies.TestKind as WrittenKind
use Rattle.mau_program.specs.declared.strategies.TestKind.TheVariants as Kind
use Rattle.mau_program.specs.declared.strategies.Assign as WrittenAssign
use Rattle.mau_program.specs.declared.definitions.StratDef as WrittenDef
use Rattle.mau_program.specs.Trees as Written
use Rattle.mau_api.specs.Programs.{fragment_of}
use Rattle.mau_evaluation.specs.Strategy.{TestKind, at_top, within_top, anywhere, Assign, Strategy, idle, fail, every_rule, label, top_only, call, test, star, plus, to_normal, in_turn, either, or_else, branch, negation, attempt, test_of, part_rewrite, label_by, PartUses, no_parts, part_use, Strategies, no_strategies, strategy, StratDef}

abbrev pub kind_of : WrittenKind.TestKind → TestKind
kind_of Kind.Match = at_top
kind_of Kind.Xmatch = within_top
kind_of Kind.Amatch = anywhere

abbrev pub assign_of : WrittenAssign.Assign → Assign
assign_of a = record { name = a.name; sort = a.sort; term = tree_of a.value }

abbrev mutual
  pub meaning_of : Written.StrategyOf → Strategy
  meaning_of Written.idle = idle
  meaning_of Written.fail = fail
  meaning_of Written.every_rule = every_rule
  meaning_of (Written.label l xs) = label l (map assign_of xs)
  meaning_of (Written.top_only s) = top_only (meaning_of s)
  meaning_of (Written.call f ts) = call f ts
  meaning_of (Written.test k p c) = test (kind_of k) (tree_of p) (map fragment_of c)
  meaning_of (Written.star s) = star (meaning_of s)
  meaning_of (Written.plus s) = plus (meaning_of s)
  meaning_of (Written.to_normal s) = to_normal (meaning_of s)
  meaning_of (Written.in_turn s t) = in_turn (meaning_of s) (meaning_of t)
  meaning_of (Written.either s t) = either (meaning_of s) (meaning_of t)
  meaning_of (Written.or_else s t) = or_else (meaning_of s) (meaning_of t)
  meaning_of (Written.branch s t u) = branch (meaning_of s) (meaning_of t) (meaning_of u)
  meaning_of (Written.negation s) = negation (meaning_of s)
  meaning_of (Written.attempt s) = attempt (meaning_of s)
  meaning_of (Written.test_of s) = test_of (meaning_of s)
  meaning_of (Written.part_rewrite k p c us) = part_rewrite (kind_of k) (tree_of p) (map fragment_of c) (parts_of us)
  meaning_of (Written.label_by l xs ss) = label_by l (map assign_of xs) (meanings_of ss)

  pub meanings_of : Written.Strategies → Strategies
  meanings_of Written.no_strategies = no_strategies
  meanings_of (Written.strategy s ss) = strategy (meaning_of s) (meanings_of ss)

  pub parts_of : Written.Uses → PartUses
  parts_of Written.no_uses = no_parts
  parts_of (Written.use_of v s us) = part_use (variable_of v) (meaning_of s) (parts_of us)

-- what strategies mean, one by one
abbrev pub meant : List Written.StrategyOf → List Strategy
meant ss = map meaning_of ss

abbrev pub definition_of : WrittenDef.StratDef → StratDef
definition_of d = record { name = d.name; args = d.args; body = meaning_of d.body; cond = map fragment_of d.cond }
