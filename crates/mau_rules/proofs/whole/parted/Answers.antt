use Rattle.std.proofs.Common.{map, ap, ◌∙◌}
use Rattle.mau_terms.specs.View.{variable_of}
use Rattle.std.proofs.lemmas.List.{take_all}
use Rattle.mau_rules.proofs.Parted.{firsts, seconds, first_names, bound_parted, values_parted}
use Rattle.mau_rules.proofs.whole.parted.Goals as goal

pub returns-clause-bound : goal.returns-clause-bound
returns-clause-bound c = λ nodes.
    let all = take_all c.loop-variable.variable-index c.args.bound.now c.loop-variable-test.false in
    bound_parted nodes c.args.bound.now (record { variables = c.loop-variable.variables; values = c.loop-variable.values }) (c.loop-variable.invariant.0 ∙ ap firsts all) (c.loop-variable.invariant.1 ∙ ap seconds all)

pub returns-clause-values : goal.returns-clause-values
returns-clause-values c = λ s nodes table h.
    let all = take_all c.loop-variable.variable-index c.args.bound.now c.loop-variable-test.false in
    values_parted s nodes table c.args.bound.now h (record { variables = c.loop-variable.variables; values = c.loop-variable.values }) (c.loop-variable.invariant.0 ∙ ap firsts all) (c.loop-variable.invariant.1 ∙ ap seconds all)

pub returns-clause-named : goal.returns-clause-named
returns-clause-named c =
    let all = take_all c.loop-variable.variable-index c.args.bound.now c.loop-variable-test.false in
    ap (map variable_of) (c.loop-variable.invariant.0 ∙ ap firsts all) ∙ first_names c.args.bound.now

pub returns-clause-items : goal.returns-clause-items
returns-clause-items c =
    let all = take_all c.loop-variable.variable-index c.args.bound.now c.loop-variable-test.false in
    c.loop-variable.invariant.1 ∙ ap seconds all
