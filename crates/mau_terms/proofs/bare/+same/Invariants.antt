use Rattle.std.proofs.Common.{◌≡◌, take, map}
use Rattle.mau_terms.specs.View.{tree_of}
use Rattle.mau_terms.proofs.bare.+same.Given as goal

abbrev pub invariant-Args::same-loop-i : goal.invariant-Args::same-loop-i
invariant-Args::same-loop-i l = map tree_of (take l.i l.self-inside.items.items) ≡ map tree_of (take l.i l.other-inside.items.items)
