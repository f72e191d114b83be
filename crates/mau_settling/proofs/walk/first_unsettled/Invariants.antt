use Rattle.std.proofs.Common.{All}
use Rattle.mau_settling.specs.Due.{IsPlaceIn}
use Rattle.mau_settling.proofs.walk.first_unsettled.Given as goal

abbrev pub invariant-loop : goal.invariant-loop
invariant-loop l = All (IsPlaceIn l.store l.table l.root.0) l.path.items
