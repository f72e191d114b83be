use Rattle.mau_check.specs.Told.{IsPlainTable}
use Rattle.mau_check.proofs.sorts.some_ends_shown.Given as goal

abbrev pub invariant-loop-said : goal.invariant-loop-said
invariant-loop-said l = IsPlainTable l.sig l.store l.plain
