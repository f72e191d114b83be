use Rattle.std.proofs.Common.{◌≡◌, ◌++◌, take, map}
use Rattle.mau_renumber.specs.Carried.{equation_to}
use Rattle.mau_renumber.specs.Tables.{numbers_in}
use Rattle.mau_module.proofs.tables.add_equations.Given as goal

abbrev pub invariant-loop-equation : goal.invariant-loop-equation
invariant-loop-equation l = l.out.items ≡ l.fn.out.items ++ map (equation_to (numbers_in l.tables)) (take l.equation-index l.equations)
