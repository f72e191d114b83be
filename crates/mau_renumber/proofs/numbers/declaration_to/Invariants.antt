use Rattle.std.proofs.Common.{◌≡◌, take, map, get_or}
use Rattle.mau_renumber.proofs.numbers.declaration_to.Given as goal

abbrev pub invariant-loop-arg : goal.invariant-loop-arg
invariant-loop-arg l = l.args.items ≡ map (λ a. get_or l.table a 0) (take l.arg-index l.arg-items)
