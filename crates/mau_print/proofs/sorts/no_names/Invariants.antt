use Rattle.std.proofs.Common.{◌≡◌, None, length, All}
use Rattle.mau_print.proofs.sorts.no_names.Given as goal

abbrev pub invariant-loop-kind : goal.invariant-loop-kind
invariant-loop-kind l = (length l.firsts.items ≡ l._kind) × All (λ name. name ≡ None) l.firsts.items
