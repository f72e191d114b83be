use Rattle.std.proofs.Common.{◌≡◌, map, All}
use Rattle.mau_signature.specs.Attributes.{with_united}
use Rattle.mau_signature.specs.Built.{declarations_in, IsEntry}
use Rattle.mau_signature.proofs.build.enter_all.Given as goal

abbrev pub invariant-loop-group : goal.invariant-loop-group
invariant-loop-group l = (map declarations_in l.entries.items ≡ map with_united l.yielded) × All (IsEntry l.poset l.names) l.entries.items
