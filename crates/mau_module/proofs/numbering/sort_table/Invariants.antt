use Rattle.std.proofs.Common.{◌≡◌, ◌<◌, take, map, length, All}
use Rattle.mau_module.specs.Numbering.{number_in}
use Rattle.mau_module.proofs.numbering.sort_table.Given as goal

abbrev pub invariant-loop-number : goal.invariant-loop-number
invariant-loop-number l = record {
  table : l.table.items ≡ map (number_in l.news) (take l.number l.olds);
  within : All (λ s. s < length l.news) l.table.items;
}
