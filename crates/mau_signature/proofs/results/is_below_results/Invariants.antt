use Rattle.std.proofs.Common.{take}
use Rattle.mau_signature.specs.Lowest.{IsBelowResults}
use Rattle.mau_signature.proofs.results.is_below_results.Given as goal

abbrev pub invariant-loop-decl : goal.invariant-loop-decl
invariant-loop-decl l = IsBelowResults l.poset (take l.decl-index l.decls) l.sorts l.low
