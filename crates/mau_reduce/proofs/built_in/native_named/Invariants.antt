use Rattle.std.proofs.Common.{◌≡◌, map, drop}
use Rattle.mau_formula.specs.Operator.{operator_named}
use Rattle.mau_formula.specs.Native.{natives, native_operator}
use Rattle.mau_reduce.proofs.built_in.native_named.Given as goal

abbrev pub invariant-loop-native : goal.invariant-loop-native
invariant-loop-native l = operator_named (map native_operator natives) l.name ≡ operator_named (map native_operator (drop l.native-index natives)) l.name
