use Rattle.std.proofs.Common.{◌≡◌, map, take}
use Rattle.mau_module.specs.Named.{sort_in}
use Rattle.mau_module.proofs.naming.sorts_in.Given as goal

abbrev pub invariant-loop-tokens : goal.invariant-loop-tokens
invariant-loop-tokens l = l.found.items ≡ map (sort_in l.words l.sorts) (take l.tokens-index l.named)
