use Rattle.std.proofs.Common.{◌≡◌, take}
use Rattle.mau_declare.specs.Attributes.{gathers}
use Rattle.mau_declare.proofs.attributes.read_gathers.Given as goal

abbrev pub invariant-loop-token : goal.invariant-loop-token
invariant-loop-token l = l.gathers.items ≡ gathers l.words (take l.token-index l.value)
