use Rattle.std.proofs.Common.{◌≡◌, ◌++◌, map, take}
use Rattle.mau_module.specs.Named.{declared_strat}
use Rattle.mau_module.proofs.naming.add_declared.Given as goal

abbrev pub invariant-loop-name : goal.invariant-loop-name
invariant-loop-name l = l.out.items ≡ l.fn.out.items ++ map (declared_strat l.words l.sorts l.strats) (take l.name-index l.name-items)
