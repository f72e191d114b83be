use Rattle.std.proofs.Common.{◌≡◌, ◌++◌, take, map}
use Rattle.mau_renumber.specs.Strategies.{definition_to}
use Rattle.mau_renumber.specs.Tables.{numbers_in}
use Rattle.mau_module.proofs.tables.add_strategies.Given as goal

abbrev pub invariant-loop-strategy : goal.invariant-loop-strategy
invariant-loop-strategy l = l.out.items ≡ l.fn.out.items ++ map (definition_to (numbers_in l.tables)) (take l.strategy-index l.strategies)
