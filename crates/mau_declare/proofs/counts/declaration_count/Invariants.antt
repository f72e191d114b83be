use Rattle.std.proofs.Common.{◌≡◌, ◌-◌, ◌^◌, min, take}
use Rattle.mau_declare.specs.Counts.{declaration_count}
use Rattle.mau_declare.proofs.counts.declaration_count.Given as goal

abbrev pub invariant-loop-element : goal.invariant-loop-element
invariant-loop-element l = l.count ≡ min (declaration_count (take l.element-index l.elements)) (2 ^ 64 - 1)
