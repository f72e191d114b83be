use Rattle.std.proofs.Common.{◌≡◌, List, ℕ, map, take}
use denote.Ref.{Bor}
use Rattle.mau_making.specs.Counted.{AreCountsIn}
use Rattle.mau_making.proofs.counting.counts_of.Given as goal

abbrev pub invariant-loop-line : goal.invariant-loop-line
invariant-loop-line l = AreCountsIn (map (λ (x : Bor (List ℕ)). x.now) (take l.line-index l.line-items)) l.counts.items l.counts.matchers l.counts.rewrites
