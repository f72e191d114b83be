use Rattle.std.proofs.Common.{◌≡◌, take}
use Rattle.mau_declare.specs.Attributes.{numbers}
use Rattle.mau_declare.proofs.attributes.read_numbers.Given as goal

abbrev pub invariant-loop-token : goal.invariant-loop-token
invariant-loop-token l = l.numbers.items ≡ numbers l.words (take l.token-index l.value)
