use Rattle.std.proofs.Common.{Some, sym, ap, ◌∙◌}
use Rattle.mau_terms.specs.Norm.{is_unit}
use Rattle.mau_terms.specs.declared.theory.Identity.TheVariants.{Const}
use Rattle.mau_store.specs.Trees.{tree_over}
use Rattle.mau_store.specs.View.{node_of}
use Rattle.mau_canon.proofs.Elements.{unit_with_arguments}
use Rattle.mau_canon.proofs.list.is_constant.Goals as goal

pub returns-else-is_empty : goal.returns-else-is_empty
returns-else-is_empty c g =
    let a = c.in-App in
    let constant = c.args.constant in
    c.if-is_empty.false
    ∙ sym (ap (λ n. is_unit (Some (Const constant)) (tree_over g (node_of n))) a.is
    ∙ unit_with_arguments constant g a.op.0 a.args.now (sym c.is_empty.ensures ∙ c.if-is_empty.false))
