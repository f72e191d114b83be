use Rattle.std.proofs.Common.{take}
use Rattle.std.specs.Prelude.{All}
use Rattle.mau_module.specs.Stated.{IsHead}
use Rattle.mau_module.proofs.own.have_heads.Given as goal

abbrev pub invariant-loop-membership : goal.invariant-loop-membership
invariant-loop-membership l = All (IsHead l.signature) (take l.membership-index l.memberships)
