-- A variable of a pattern and its strategy, as the code keeps them, in other numbers.
use Rattle.std.specs.Prelude.{ℕ, List}
use Rattle.mau_program.specs.declared.strategies.PartUse.{PartUse}
use Rattle.mau_renumber.specs.Carried.{Numbers}
use Rattle.mau_renumber.specs.Strategies.{variable_to, strategy_to}

abbrev pub part_to : Numbers → PartUse → PartUse
part_to n u = record { var = variable_to n u.var; strategy = strategy_to n u.strategy }
