use Rattle.std.proofs.Common.{map, ap, ◌∙◌}
use Rattle.mau_terms.specs.View.{variable_of}
use Rattle.mau_listing.specs.Places.{variables_in}
use Rattle.mau_prove.proofs.memberships.variables_of.Goals as goal

pub returns : goal.returns
returns c = ap (map variable_of) (c.in_ok-found.ensures ∙ ap variables_in c.deref.ensures.value) ∙ c.in_ok-places.ensures.variables
