use Rattle.std.proofs.Common.{◌<◌, [], get_or, length, take}
use Rattle.mau_signature.specs.Signature.{theory_at}
use Rattle.mau_listing.specs.Places.{under_all}
use Rattle.mau_plain.specs.Least.{IsLeastOf}
use Rattle.mau_plain.proofs.least.least_of.Given as goal

abbrev pub invariant-loop-i : goal.invariant-loop-i
invariant-loop-i l = record {
  there : l.best < length l.lists;
  least : IsLeastOf (theory_at l.sig) (under_all l.places) l.store (take l.i l.lists) (get_or l.lists l.best []);
}
