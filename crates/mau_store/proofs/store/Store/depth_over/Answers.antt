use Rattle.std.proofs.Common.{ap, sym, ◌∙◌, suc, add-one}
use Rattle.mau_terms.specs.Depth.{depth}
use Rattle.mau_store.specs.View.{node_of, numbers}
use Rattle.mau_store.specs.Trees.{tree_over, tree_at, trees_at}
use Rattle.mau_store.proofs.Depths.{depth-node}
use Rattle.mau_store.proofs.store.Store.depth_over.Goals as goal

pub returns-in-App : goal.returns-in-App
returns-in-App c =
    let g = tree_at c.args.self.now in
    record {
      value =
          add-one c.deepest.result
          ∙ ap suc c.deepest.ensures.value
          ∙ sym (depth-node c.in-App.field-0.0 (trees_at c.args.self.now (numbers c.in-App.args.now)))
          ∙ ap (λ n. depth (tree_over g (node_of n))) (sym c.in-App.is);
    }
