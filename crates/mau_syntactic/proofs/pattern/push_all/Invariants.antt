use Rattle.std.proofs.Common.{◌≡◌, ◌++◌, map}
use Rattle.mau_syntactic.proofs.pattern.push_all.Given as goal

abbrev pub invariant-loop-term : goal.invariant-loop-term
invariant-loop-term l = l.stack.items ≡ l.fn.stack.items ++ map (λ t. t.now) l.yielded
