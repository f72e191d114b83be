use Rattle.std.proofs.Common.{◌≡◌, ◌++◌, take, drop}
use Rattle.mau_strattext.specs.Faults.{inner, behind_inner}
use Rattle.mau_strattext.proofs.build.inner_count.Given as goal

abbrev pub invariant-loop-i : goal.invariant-loop-i
invariant-loop-i l = record {
  before : inner l.pieces ≡ take l.i l.pieces ++ inner (drop l.i l.pieces);
  behind : behind_inner l.pieces ≡ behind_inner (drop l.i l.pieces);
}
