use Rattle.std.proofs.Common.{◌≡◌, ◌++◌, ◌-◌, string_bytes}
use Rattle.mau_print.specs.LeftToRight.{closing, times}
use Rattle.mau_print.proofs.printing.write_closings.Given as goal

abbrev pub invariant-loop-written : goal.invariant-loop-written
invariant-loop-written l = string_bytes l.out ++ times (l.count - l._written) (closing l.in_parentheses l.after) ≡ string_bytes l.initial.out ++ times l.count (closing l.in_parentheses l.after)
