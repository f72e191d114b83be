use Rattle.std.proofs.Common.{◌≡◌, take, false}
use Rattle.mau_signature.specs.Attributes.{has_number}
use Rattle.mau_rules.proofs.walk.names.Given as goal

abbrev pub invariant-loop-number : goal.invariant-loop-number
invariant-loop-number l = has_number (take l.number-index l.numbers) l.argument ≡ false
