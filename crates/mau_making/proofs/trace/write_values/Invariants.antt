use Rattle.std.proofs.Common.{◌≡◌, ◌++◌, drop}
use Rattle.mau_making.proofs.Valued.{lines}
use Rattle.mau_making.proofs.trace.write_values.Given as goal

abbrev pub invariant-loop-i : goal.invariant-loop-i
invariant-loop-i l =
    l.out.items ++ lines l.«module» l.own l.vars l.store (drop l.i l.variables) (drop l.i l.values) ≡ l.fn.out.items ++ lines l.«module» l.own l.vars l.store l.variables l.values
