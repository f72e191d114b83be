use Rattle.std.proofs.Common.{All}
use Rattle.mau_match.specs.Fronts.{IsOtherLimit}
use Rattle.mau_match.proofs.front.other_limits.Given as goal

abbrev pub invariant-loop-limit : goal.invariant-loop-limit
invariant-loop-limit l = All (IsOtherLimit l.limits l.fn.op l.target) l.out.items
