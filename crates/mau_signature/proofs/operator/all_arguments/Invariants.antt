use Rattle.std.proofs.Common.{◌≡◌}
use Rattle.mau_signature.specs.Attributes.{numbers_to}
use Rattle.mau_signature.proofs.operator.all_arguments.Given as goal

abbrev pub invariant-loop-i : goal.invariant-loop-i
invariant-loop-i l = l.strategy.items ≡ numbers_to l.i
