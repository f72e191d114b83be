use Rattle.std.proofs.Common.{◌≡◌, ◌++◌, take, map}
use Rattle.mau_renumber.specs.Carried.{rule_to}
use Rattle.mau_renumber.specs.Tables.{numbers_in}
use Rattle.mau_module.proofs.tables.add_rules.Given as goal

abbrev pub invariant-loop-rule : goal.invariant-loop-rule
invariant-loop-rule l = l.out.items ≡ l.fn.out.items ++ map (rule_to (numbers_in l.tables)) (take l.rule-index l.rules)
