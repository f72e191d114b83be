use Rattle.std.proofs.Common.{◌≡◌, ◌++◌, take, map}
use Rattle.mau_renumber.specs.Strategies.{strategy_declaration_to}
use Rattle.mau_renumber.specs.Tables.{numbers_in}
use Rattle.mau_module.proofs.tables.add_strats.Given as goal

abbrev pub invariant-loop-strat : goal.invariant-loop-strat
invariant-loop-strat l = l.out.items ≡ l.fn.out.items ++ map (strategy_declaration_to (numbers_in l.tables)) (take l.strat-index l.strats)
