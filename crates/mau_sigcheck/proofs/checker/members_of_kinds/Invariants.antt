use Rattle.mau_sigcheck.specs.Checking.{HasMembersBelow}
use Rattle.mau_sigcheck.proofs.checker.members_of_kinds.Given as goal

abbrev pub invariant-loop-sort : goal.invariant-loop-sort
invariant-loop-sort l = HasMembersBelow l.poset l.sort l.lists.items
