use Rattle.std.proofs.Common.{◌≡◌, ◌<◌, ℕ, [], false, get_or}
use Rattle.mau_terms.specs.Vars.{same_pair}
use Rattle.mau_docheck.proofs.holes.place_of.Given as goal

abbrev pub invariant-loop-i : goal.invariant-loop-i
invariant-loop-i l = (k : ℕ) → k < l.i → same_pair (l.name, l.sort) (get_or l.vars k ([], 0)) ≡ false
