use Rattle.std.specs.Prelude.{bytes_eq}
use Rattle.mau_check.proofs.Texts.{ComesFrom}
use Rattle.mau_check.proofs.written.sort_named.Given as goal

abbrev pub invariant-loop-i : goal.invariant-loop-i
invariant-loop-i l = ComesFrom (λ v. bytes_eq v l.name) l.sorts l.i
