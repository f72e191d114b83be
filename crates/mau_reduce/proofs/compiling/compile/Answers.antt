use Rattle.std.proofs.Common.{map, ap, ◌∙◌}
use Rattle.mau_terms.specs.View.{variable_of}
use Rattle.mau_listing.specs.Places.{variables_in}
use Rattle.mau_reduce.proofs.CompiledAt.{pattern_of}
use Rattle.mau_reduce.proofs.compiling.compile.Goals as goal

pub returns : goal.returns
returns c = record {
  variables = ap (map variable_of) (c.in_ok-variables.ensures ∙ ap variables_in c.deref.ensures.value) ∙ c.in_ok-places.ensures.variables;
  pattern = pattern_of c.args.sig.now c.args.equation.now c.in_ok-pattern.pattern c.in_ok-pattern.ensures.tree c.in_ok-pattern.ensures.free;
  right = ap (λ w. w.0) c.in_ok-right.ensures;
}
