use Rattle.std.proofs.Common.{map, sym, ◌∙◌}
use Rattle.std.specs.List.{list_all}
use Rattle.mau_terms.specs.Subst.{has_variable}
use Rattle.mau_terms.specs.View.{variable_of}
use Rattle.mau_program.specs.Binding.{listed}
use Rattle.mau_searched.proofs.Listed.{one_more, other}
use Rattle.mau_searched.proofs.rules.has_all.Goals as goal

pub returns-then-not-has_only : goal.returns-then-not-has_only
returns-then-not-has_only c =
    other (map variable_of c.args.variables.now) c.args.vars.now c.loop-index.index c.in-Some.variable
    (list_all (has_variable (map variable_of c.args.variables.now)) (listed c.args.vars.now))
    c.in-Some.ensures.given.0 c.in-Some.ensures.given.1 c.loop-index.invariant (sym c.has_only.ensures ∙ c.if-not-has_only.true)

pub loop-index-preserved : goal.loop-index-preserved
loop-index-preserved c =
    one_more (map variable_of c.args.variables.now) c.args.vars.now c.loop-index.index c.in-Some.variable
    (list_all (has_variable (map variable_of c.args.variables.now)) (listed c.args.vars.now))
    c.in-Some.ensures.given.0 c.in-Some.ensures.given.1 c.loop-index.invariant (sym c.has_only.ensures ∙ c.if-not-has_only.false)
