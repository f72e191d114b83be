use Rattle.std.proofs.Common.{◌≡◌, ◌++◌, map}
use Rattle.std.specs.Prelude.{filter, string_bytes}
use Rattle.std.specs.List.{range_with_len}
use Rattle.mau_declare.specs.Flattened.{name_at, comma_names, is_maximal_in}
use Rattle.mau_declare.proofs.Listed.{is_nil}
use Rattle.mau_declare.proofs.sort_names.push_maximal_sorts.Given as goal

abbrev pub invariant-loop-sort : goal.invariant-loop-sort
invariant-loop-sort l = record {
  written : string_bytes l.text ≡ string_bytes l.fn.text ++ comma_names (map (name_at l.sorts) (filter (is_maximal_in l.poset l.kind) (range_with_len 0 l.sort)));
  first : l.is_first ≡ is_nil (filter (is_maximal_in l.poset l.kind) (range_with_len 0 l.sort));
}
