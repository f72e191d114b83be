use Rattle.std.proofs.Common.{◌≡◌, take, length}
use Rattle.mau_poset.specs.Order.{IsWithin}
use Rattle.mau_module.specs.Included.{pairs_of}
use Rattle.mau_module.proofs.declarations.pairs_of.Given as goal

abbrev pub invariant-loop-part : goal.invariant-loop-part
invariant-loop-part l = record {
  pairs : l.pairs.items ≡ pairs_of l.library l.names (take l.part-index l.parts);
  within : IsWithin l.pairs.items (length l.names);
}
