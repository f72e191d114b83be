use Rattle.std.proofs.Common.{◌≡◌, ◌++◌, drop}
use Rattle.mau_signing.specs.Signed.{sorts_text}
use Rattle.mau_signing.proofs.refusal.write_sorts.Given as goal

abbrev pub invariant-loop-sort : goal.invariant-loop-sort
invariant-loop-sort l = l.out.items ++ sorts_text l.sorts l.poset (drop l.sort-index l.tuple) ≡ l.fn.out.items ++ sorts_text l.sorts l.poset l.tuple
