use Rattle.std.proofs.Common.{◌≡◌, take, map, All}
use Rattle.mau_signature.specs.Faults.{IsSort}
use Rattle.mau_declare.specs.Flattened.{meant}
use Rattle.mau_declare.proofs.flatten.all_meant.Given as goal

abbrev pub invariant-loop-used : goal.invariant-loop-used
invariant-loop-used l = record {
  value : l.sorts.items ≡ map (meant l.poset l.partial) (take l.used-index l.uses);
  sorts : All (IsSort l.poset) l.sorts.items;
}
