use Rattle.std.proofs.Common.{◌≡◌, map, fold}
use Rattle.std.specs.List.{range_with_len}
use Rattle.mau_terms.specs.Vars.{with_pair}
use Rattle.mau_docheck.specs.Holes.{hole_pair}
use Rattle.mau_docheck.proofs.holes.add_holes.Given as goal

abbrev pub invariant-loop-i : goal.invariant-loop-i
invariant-loop-i l = l.vars ≡ fold with_pair l.fn.vars (map hole_pair (range_with_len l.poset.sorts l.i))
