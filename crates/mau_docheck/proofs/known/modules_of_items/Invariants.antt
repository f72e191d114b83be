use Rattle.std.proofs.Common.{◌≡◌, ◌+◌, length}
use Rattle.mau_module.specs.Library.{HasPrelude}
use Rattle.mau_docheck.specs.Known.{KnownAfter}
use Rattle.mau_docheck.specs.Kept.{AreCounts}
use Rattle.mau_docheck.proofs.known.modules_of_items.Given as goal

abbrev pub invariant-loop-item : goal.invariant-loop-item
invariant-loop-item l = record {
  counts : AreCounts l.words l.items l.library l.counts.items;
  counted : length l.counts.items ≡ l.item-index + 1;
  known : KnownAfter l.words l.items l.item-index l.library;
  prelude : HasPrelude l.library;
}
