use Rattle.std.proofs.Common.{drop}
use Rattle.std.specs.Prelude.{◌↔◌}
use Rattle.mau_signature.specs.Signature.{AreAtOrBelow}
use Rattle.mau_signature.proofs.results.are_at_or_below.Given as goal

-- what completes the rest completes the whole
abbrev pub invariant-loop-i : goal.invariant-loop-i
invariant-loop-i l = AreAtOrBelow l.poset l.sorts l.others ↔ AreAtOrBelow l.poset (drop l.i l.sorts) (drop l.i l.others)
