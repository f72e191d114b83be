use Rattle.std.proofs.Common.{◌≡◌, take, map}
use Rattle.mau_renumber.specs.Tables.{sorts_in}
use Rattle.mau_renumber.proofs.carry.Tables.strategy_declaration.Given as goal

abbrev pub invariant-loop-arg : goal.invariant-loop-arg
invariant-loop-arg l = l.args.items ≡ map (sorts_in l.self) (take l.arg-index l.arg-items)
