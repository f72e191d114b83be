use Rattle.std.proofs.Common.{◌≡◌, ◌<◌, take, length, All}
use Rattle.mau_module.specs.Included.{parts_of}
use Rattle.mau_module.proofs.include.parts_of.Given as goal

abbrev pub invariant-loop-number : goal.invariant-loop-number
invariant-loop-number l = record {
  value : l.parts.items ≡ parts_of l.library (take l.number-index l.imports);
  within : All (λ p. p < length l.library) l.parts.items;
}
