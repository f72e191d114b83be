use Rattle.std.proofs.Common.{◌≡◌, List, drop, map}
use Rattle.mau_terms.specs.View.{variable_of}
use Rattle.mau_store.specs.Node.{Node}
use Rattle.mau_store.specs.Trees.{trees_at}
use Rattle.mau_store.specs.View.{numbers}
use Rattle.mau_evaluation.specs.Evaluation.{look_up, binds}
use Rattle.mau_reduce.specs.Bindings.{paired}
use Rattle.mau_choices.proofs.own.value_in.Given as goal

-- the variable is found among those that are left as among all
abbrev pub invariant-loop-i : goal.invariant-loop-i
invariant-loop-i l = (nodes : List Node) →
    (binds (paired (map variable_of l.variables) (trees_at nodes (numbers l.values))) (variable_of l.variable)
    ≡ binds (paired (map variable_of (drop l.i l.variables)) (trees_at nodes (numbers (drop l.i l.values)))) (variable_of l.variable))
    × (look_up (paired (map variable_of l.variables) (trees_at nodes (numbers l.values))) (variable_of l.variable)
    ≡ look_up (paired (map variable_of (drop l.i l.variables)) (trees_at nodes (numbers (drop l.i l.values)))) (variable_of l.variable))
