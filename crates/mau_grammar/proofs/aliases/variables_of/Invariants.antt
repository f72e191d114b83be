use Rattle.std.proofs.Common.{◌≡◌, ◌++◌, map, drop}
use Rattle.mau_grammar.specs.Grammar.{variable_of}
use Rattle.mau_grammar.proofs.aliases.variables_of.Given as goal

abbrev pub invariant-loop-alias : goal.invariant-loop-alias
invariant-loop-alias l = l.variables.items ++ map (variable_of l.poset) (drop l.alias-index l.aliases) ≡ map (variable_of l.poset) l.aliases
