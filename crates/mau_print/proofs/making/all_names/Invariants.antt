use Rattle.std.proofs.Common.{◌≡◌, ◌++◌, map, take}
use Rattle.mau_print.proofs.making.all_names.Given as goal

abbrev pub invariant-loop-sort : goal.invariant-loop-sort
invariant-loop-sort l = l.names.items ≡ map (λ n. n.name) (take l.sort-index l.sorts)

abbrev pub invariant-loop-kind : goal.invariant-loop-kind
invariant-loop-kind l = l.names.items ≡ map (λ n. n.name) l.fn.sorts ++ take l.kind-index l.kinds
