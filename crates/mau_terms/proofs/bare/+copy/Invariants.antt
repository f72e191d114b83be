use Rattle.std.proofs.Common.{◌≡◌, take}
use Rattle.mau_terms.proofs.bare.+copy.Given as goal

abbrev pub invariant-Args::copy-loop-item : goal.invariant-Args::copy-loop-item
invariant-Args::copy-loop-item l = l.copies.items ≡ take l.item-index l.item-items
