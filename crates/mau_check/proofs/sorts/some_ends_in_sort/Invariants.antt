use Rattle.std.proofs.Common.{drop}
use Rattle.mau_sorts.specs.HasSort.{Known}
use Rattle.mau_check.specs.Said.{SomeSaid}
use Rattle.mau_check.specs.Told.{IsPlainTable, IsToldBy, EndsInSort}
use Rattle.mau_check.proofs.sorts.some_ends_in_sort.Given as goal

abbrev pub invariant-loop-said : goal.invariant-loop-said
invariant-loop-said l = record {
  plain : IsPlainTable l.sig l.store l.plain;
  behind : (known : Known) → IsToldBy l.sig known l.store l.told → SomeSaid (EndsInSort l.sig l.store known l.from.0 l.sort) l.uses
      → SomeSaid (EndsInSort l.sig l.store known l.from.0 l.sort) (drop l.said-index l.uses);
}
