use Rattle.std.proofs.Common.{◌≡◌, ℕ, ◌<◌, [], ◌∷◌, ◌++◌, length, get_or, take}
use Rattle.mau_sigcheck.specs.Checking.{Meets}
use Rattle.mau_sigcheck.proofs.Walks.{HoldsFrom}
use Rattle.mau_sigcheck.proofs.checker.Checker.+find_from.Given as goal

abbrev pub decreases-find_from : goal.decreases-find_from
decreases-find_from l = length l.kinds.now

abbrev pub invariant-loop-member : goal.invariant-loop-member
invariant-loop-member l = record {
  kept : take l.place l.tuple ≡ take l.place l.initial.tuple;
  below : (i : ℕ) → i < l.member-index → HoldsFrom l.self.hierarchy l.others (Meets l.self l.op.0 l.demand) (take l.place l.initial.tuple ++ get_or l.member-items i 0 ∷ []);
}
