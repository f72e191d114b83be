use Rattle.std.proofs.Common.{List}
use Rattle.mau_formula.specs.Operator.{Operator}
use Rattle.mau_reducer.proofs.BuiltIns.{AreFirst}
use Rattle.mau_reducer.proofs.reducer.built_ins_of.Given as goal

abbrev pub invariant-loop-number : goal.invariant-loop-number
invariant-loop-number l = (hooks : List Operator) → AreFirst l.program.sig hooks l.found.items l.number
