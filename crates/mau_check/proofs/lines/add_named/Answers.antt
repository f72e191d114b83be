use Rattle.std.proofs.Common.{◌<◌, subst, arith}
use Rattle.mau_terms.specs.Tree.{variable}
use Rattle.mau_api.specs.Terms.{hole_index}
use Rattle.mau_check.specs.Kept.{IsKeptFor}
use Rattle.mau_terms.proofs.Outcomes.{IfOk-then}
use Rattle.mau_check.proofs.Lined.{absent_holes, place_below, kept_named}
use Rattle.mau_check.proofs.lines.add_named.Goals as goal

pub variable-requires-clause-holes : goal.variable-requires-clause-holes
variable-requires-clause-holes c = absent_holes c.in_ok-added.added.index c.args.sort (omega (arith, c.in_ok-added.ensures.ok, place_below c.args.variables.now (c.args.name.now, c.args.sort), c.len.ensures.counted, c.if-len.false))

pub returns-clause-kept : goal.returns-clause-kept
returns-clause-kept c =
    let i = c.in_ok-added.ensures.ok in
    let small : c.in_ok-added.added.index < hole_index = omega (arith, c.in_ok-added.ensures.ok, place_below c.args.variables.now (c.args.name.now, c.args.sort), c.len.ensures.counted, c.if-len.false) in
    IfOk-then _ _
    (λ k h. kept_named c.args.sig.now c.variable.new.store k _ c.args.sort (subst (λ n. n < hole_index) i small) (subst (λ n. IsKeptFor c.args.sig.now c.variable.new.store k (variable n c.args.sort)) i h))
    c.variable.result c.variable.ensures.kept
