use Rattle.std.proofs.Common.{◌≡◌, ◌++◌}
use Rattle.mau_making.specs.MadeSession.{made_pairs}
use Rattle.mau_making.proofs.session.write_pairs.Given as goal

abbrev pub invariant-loop-j : goal.invariant-loop-j
invariant-loop-j l = l.out.items ≡ l.fn.out.items ++ made_pairs l.j
