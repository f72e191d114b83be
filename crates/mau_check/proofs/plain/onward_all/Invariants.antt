use Rattle.std.proofs.Common.{◌≡◌, drop}
use Rattle.mau_check.specs.Said.{onward_all}
use Rattle.mau_check.proofs.plain.onward_all.Given as goal

abbrev pub invariant-loop-said : goal.invariant-loop-said
invariant-loop-said l = onward_all l.whole (drop l.said-index l.rest) ≡ onward_all l.fn.first l.rest
