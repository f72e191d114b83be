use Rattle.std.proofs.Common.{◌<◌, length}
use Rattle.mau_store.specs.Trees.{trees_at}
use Rattle.mau_store.specs.View.{numbers}
use Rattle.mau_match.specs.Skipped.{IsCut}
use Rattle.mau_match.proofs.skip.cut_of.Given as goal

abbrev pub invariant-loop-cut : goal.invariant-loop-cut
invariant-loop-cut l = record {
  cut : IsCut (trees_at l.store (numbers l.items)) (trees_at l.store (numbers l.list)) l.least l.cut;
  within : l.cut < length l.list;
}

abbrev pub decreases-loop-cut : goal.decreases-loop-cut
decreases-loop-cut l = l.cut
