use Rattle.std.proofs.Common.{sym, ap, ◌∙◌, bytes_eq}
use Rattle.mau_formula.specs.Native.{natives}
use Rattle.mau_reduce.proofs.BuiltTables.{native_past}
use Rattle.mau_reduce.proofs.built_in.native_named.Goals as goal

pub loop-native-preserved : goal.loop-native-preserved
loop-native-preserved c = c.loop-native.invariant ∙ native_past natives c.loop-native.native-index _ c.args.name.now c.loop-native-test.true (ap (λ x. bytes_eq x c.args.name.now) (sym c.name.ensures) ∙ (sym c.eq.ensures ∙ c.if-eq.false))
