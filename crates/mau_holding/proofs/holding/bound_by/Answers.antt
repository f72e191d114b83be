use Rattle.std.proofs.Common.{map, ap, ◌∙◌}
use Rattle.mau_terms.specs.Subst.{variables}
use Rattle.mau_terms.specs.View.{tree_of, variable_of}
use Rattle.mau_listing.specs.Places.{variables_in}
use Rattle.mau_holding.proofs.Pairs.{bound_so}
use Rattle.mau_holding.proofs.holding.bound_by.Goals as goal

pub returns : goal.returns
returns c =
    bound_so (λ v. v.items) c.pairs.result c.deref-2.result.now c.items.result.now c.args.values.now (variables (tree_of c.args.pattern.now)) c.pairs.ensures
    (ap (map variable_of) (c.deref-2.ensures.value ∙ (c.in_ok-variables.ensures ∙ ap variables_in c.deref.ensures.value)) ∙ c.in_ok-places.ensures.variables) c.items.ensures
