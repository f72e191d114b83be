use Rattle.std.proofs.Common.{arith}
use Rattle.std.proofs.lemmas.Nat.Bits.{shr_and_one}
use Rattle.std.proofs.lemmas.Bool.Decides.{nat_tests}
use Rattle.mau_poset.specs.Table.{HasBit}
use Rattle.mau_poset.proofs.table.has_bit.Goals as goal

pub returns : goal.returns
unfolding HasBit
returns c = grind (arith, nat_tests, shr_and_one)
