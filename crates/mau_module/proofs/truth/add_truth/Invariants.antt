use Rattle.std.proofs.Common.{◌≡◌, ◌++◌}
use Rattle.std.specs.Prelude.{All}
use Rattle.std.specs.List.{flat_map, range_with_len}
use Rattle.mau_signature.specs.Faults.{HasSorts}
use Rattle.mau_module.specs.Truth.{truth_over}
use Rattle.mau_module.proofs.truth.add_truth.Given as goal

abbrev pub invariant-loop-i : goal.invariant-loop-i
invariant-loop-i l = record {
  decls : l.decls.items ≡ l.fn.decls.items ++ flat_map (truth_over l.bool) (range_with_len l.poset.sorts l.i);
  sorts : All (HasSorts l.poset) l.fn.decls.items → All (HasSorts l.poset) l.decls.items;
}
