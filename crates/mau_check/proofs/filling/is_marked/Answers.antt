use Rattle.std.proofs.Common.{sym, subst}
use Rattle.mau_store.specs.Trees.{tree_at, tree_over, trees_at}
use Rattle.mau_store.specs.View.{node_of, numbers}
use Rattle.mau_check.specs.Marks.{HasNoHole}
use Rattle.mau_check.proofs.HolesFilled.{other_variable, over_no_holes}
use Rattle.mau_check.proofs.filling.is_marked.Goals as goal

pub returns-in-Var : goal.returns-in-Var
returns-in-Var c nodes h e = subst (λ n. HasNoHole (tree_over (tree_at nodes) (node_of n))) (sym c.in-Var.is) (other_variable c.in-Var.v.index c.in-Var.v.sort e)

pub returns-in-App : goal.returns-in-App
returns-in-App c nodes h e =
    subst (λ n. HasNoHole (tree_over (tree_at nodes) (node_of n))) (sym c.in-App.is) (over_no_holes c.in-App.field-0.0 (trees_at nodes (numbers c.in-App.args.now)) (c.some_marked.ensures nodes h e))
