use Rattle.std.proofs.Common.{List, All, Contains, map, take}
use Rattle.mau_terms.specs.View.{variable_of}
use Rattle.mau_store.specs.Node.{Node}
use Rattle.mau_store.specs.Trees.{trees_at}
use Rattle.mau_store.specs.View.{numbers}
use Rattle.mau_reduce.specs.Bindings.{bound_in}
use Rattle.mau_choices.specs.Choosing.{AreValuesIn}
use Rattle.mau_choices.proofs.own.values_in.Given as goal

abbrev pub invariant-loop-i : goal.invariant-loop-i
invariant-loop-i l =
    ((nodes : List Node) → AreValuesIn (bound_in nodes l.bound) (map variable_of (take l.i l.variables)) (trees_at nodes (numbers l.values.items)))
    × All (Contains l.bound.values.items) l.values.items
