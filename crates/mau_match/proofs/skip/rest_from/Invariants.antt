use Rattle.std.proofs.Common.{◌≡◌, ◌≤◌, length, drop}
use Rattle.mau_match.specs.Skipped.{rest_of}
use Rattle.mau_match.proofs.Places.{terms}
use Rattle.mau_match.proofs.skip.rest_from.Given as goal

-- so many elements of the list stand before the item
abbrev pub invariant-loop-i : goal.invariant-loop-i
invariant-loop-i l = record {
  same : rest_of (terms l.store l.list) (terms l.store l.items) ≡ rest_of (terms l.store (drop l.taken l.list)) (terms l.store (drop l.i l.items));
  room : l.taken ≤ length l.list;
}
