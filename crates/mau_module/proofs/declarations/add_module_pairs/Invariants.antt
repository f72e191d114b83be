use Rattle.std.proofs.Common.{◌≡◌, ◌++◌, take, map, length}
use Rattle.mau_poset.specs.Order.{IsWithin}
use Rattle.mau_module.specs.Numbering.{pair_to}
use Rattle.mau_module.proofs.declarations.add_module_pairs.Given as goal

abbrev pub invariant-loop-pair : goal.invariant-loop-pair
invariant-loop-pair l = record {
  pairs : l.pairs.items ≡ l.fn.pairs.items ++ map (pair_to l.«module».sorts l.names) (take l.pair-index l.pair-items);
  within : IsWithin l.fn.pairs.items (length l.names) → IsWithin l.pairs.items (length l.names);
}
