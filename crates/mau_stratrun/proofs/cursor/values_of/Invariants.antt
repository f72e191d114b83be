use Rattle.std.proofs.Common.{◌≡◌, ◌<◌, ◌++◌, length}
use Rattle.mau_strat.specs.Sharing.{list_at}
use Rattle.mau_stratrun.proofs.cursor.values_of.Given as goal

abbrev pub invariant-loop-first : goal.invariant-loop-first
invariant-loop-first l = record {
  within : l.rest.0 < length l.interner.bindings;
  items : l.values.items ++ list_at l.interner.bindings l.rest.0 ≡ list_at l.interner.bindings l.fn.id.0;
}

abbrev pub decreases-loop-first : goal.decreases-loop-first
decreases-loop-first l = l.rest.0
