use Rattle.std.proofs.Common.{◌≡◌, drop}
use Rattle.mau_declare.specs.Statements.{unknown_in_condition}
use Rattle.mau_declare.proofs.statements.unknown_in_condition.Given as goal

abbrev pub invariant-loop-fragment : goal.invariant-loop-fragment
invariant-loop-fragment l = unknown_in_condition l.words l.sorts l.condition ≡ unknown_in_condition l.words l.sorts (drop l.fragment-index l.condition)
