use Rattle.std.proofs.Common.{take}
use Rattle.mau_signature.specs.Lowest.{IsLowestResult}
use Rattle.mau_signature.proofs.results.lowest_result.Given as goal

abbrev pub invariant-loop-decl : goal.invariant-loop-decl
invariant-loop-decl l = IsLowestResult l.poset (take l.decl-index l.decls) l.sorts l.lowest
