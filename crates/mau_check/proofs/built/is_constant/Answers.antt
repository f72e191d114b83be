use Rattle.std.proofs.Common.{sym, ap, ap₂, ◌∙◌, eqb-true}
use Rattle.mau_terms.specs.Tree.{apply, no_trees}
use Rattle.mau_evaluation.specs.Listing.{same_tree}
use Rattle.mau_store.specs.Trees.{tree_at}
use Rattle.mau_reduce.specs.BuiltOperators.{constant_tree}
use Rattle.mau_reduce.proofs.Answering.{constant_same}
use Rattle.mau_reduce.proofs.Tops.{same_tree_not}
use Rattle.mau_check.proofs.built.is_constant.Goals as goal

pub returns-then-eq : goal.returns-then-eq
returns-then-eq c =
    constant_same c.args.store.now c.in-App.op.0 c.in-App.args.now c.is_empty.result c.is_empty.ensures
    ∙ ap₂ same_tree (sym c.in-App.ensures.tree) (ap (λ f. apply f no_trees) (eqb-true c.in-App.op.0 c.in-Some.constant.0 (sym c.eq.ensures ∙ c.if-eq.true)) ∙ sym (ap constant_tree c.in-Some.is))

pub returns-in-None : goal.returns-in-None
returns-in-None c = sym (ap (λ o. same_tree (tree_at c.args.store.now c.args.id.0) (constant_tree o)) c.in-None.is ∙ same_tree_not (tree_at c.args.store.now c.args.id.0) (apply 0 no_trees) c.requires.some)
