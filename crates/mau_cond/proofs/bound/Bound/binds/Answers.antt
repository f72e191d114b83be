use Rattle.std.proofs.Common.{◌∙◌, ap}
use Rattle.std.specs.List.{list_any}
use Rattle.mau_terms.specs.Subst.{same_variable}
use Rattle.mau_terms.specs.View.{variable_of}
use Rattle.mau_cond.specs.Bound.{is_bound}
use Rattle.mau_cond.proofs.Pairs.{bound_here}
use Rattle.mau_cond.proofs.bound.Bound.binds.Goals as goal

pub returns : goal.returns
returns c =
    let i = c.self.inside in
    c.contains.ensures.value
    ∙ (ap (list_any (λ y. same_variable (variable_of y) (variable_of c.args.variable))) c.deref.ensures.value
    ∙ (bound_here i.variables.items i.values.items c.args.variable c.self.invariant ∙ ap (λ bs. is_bound bs c.args.variable) c.self.view_is))
