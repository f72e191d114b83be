use Rattle.std.proofs.Common.{◌≡◌}
use Rattle.mau_signature.specs.Attributes.{numbers_to}
use Rattle.mau_declare.proofs.attributes.all_to.Given as goal

abbrev pub invariant-loop-i : goal.invariant-loop-i
invariant-loop-i l = l.numbers.items ≡ numbers_to l.i
