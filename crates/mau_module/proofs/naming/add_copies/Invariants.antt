use Rattle.std.proofs.Common.{◌≡◌, ◌++◌, take}
use Rattle.mau_module.proofs.naming.add_copies.Given as goal

abbrev pub invariant-loop-strat : goal.invariant-loop-strat
invariant-loop-strat l = l.out.items ≡ l.fn.out.items ++ take l.strat-index l.strats
