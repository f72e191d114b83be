use Rattle.std.proofs.Common.{◌≡◌, ◌<◌, take, length, All, None}
use Rattle.mau_declare.specs.Imports.{imports}
use Rattle.mau_module.specs.Included.{first_unknown, numbers_of}
use Rattle.mau_module.proofs.include.import_numbers.Given as goal

abbrev pub invariant-loop-element : goal.invariant-loop-element
invariant-loop-element l = record {
  value : l.numbers.items ≡ numbers_of l.library (imports l.words (take l.element-index l.elements));
  known : first_unknown l.library (imports l.words (take l.element-index l.elements)) ≡ None;
  within : All (λ i. i < length l.library) l.numbers.items;
}
