use Rattle.std.proofs.Common.{◌≡◌, drop, map}
use Rattle.mau_formula.specs.Operator.{operator_named}
use Rattle.mau_formula.specs.Operators.{operator_of}
use Rattle.mau_formula.proofs.table.HookTable.find.Given as goal

-- what is looked for stands from here on
abbrev pub invariant-loop-hook : goal.invariant-loop-hook
invariant-loop-hook g l = operator_named (map operator_of l.hook-items) l.name ≡ operator_named (map operator_of (drop l.hook-index l.hook-items)) l.name
