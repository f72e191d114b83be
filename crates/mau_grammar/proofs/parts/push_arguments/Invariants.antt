use Rattle.std.proofs.Common.{◌≡◌, ◌++◌, drop, true}
use Rattle.mau_grammar.specs.Parts.{listed}
use Rattle.mau_grammar.proofs.parts.push_arguments.Given as goal

abbrev pub invariant-loop-kind : goal.invariant-loop-kind
invariant-loop-kind l = l.parts.items ++ listed l.is_first (drop l.kind-index l.kinds) ≡ l.fn.parts.items ++ listed true l.kinds
