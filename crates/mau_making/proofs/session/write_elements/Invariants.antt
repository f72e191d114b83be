use Rattle.std.proofs.Common.{◌≡◌, ◌++◌}
use Rattle.mau_making.specs.MadeSession.{elements}
use Rattle.mau_making.proofs.session.write_elements.Given as goal

abbrev pub invariant-loop-i : goal.invariant-loop-i
invariant-loop-i l = l.out.items ≡ l.fn.out.items ++ elements l.i
