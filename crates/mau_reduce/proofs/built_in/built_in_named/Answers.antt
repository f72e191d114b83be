use Rattle.std.proofs.Common.{sym, ap, ◌∙◌}
use Rattle.mau_api.specs.BuiltIns.{true_in, false_in}
use Rattle.mau_formula.specs.Operator.{operator_named}
use Rattle.mau_reduce.specs.BuiltOperators.{native_kept}
use Rattle.mau_reduce.proofs.BuiltTables.{native_is_kept}
use Rattle.mau_reduce.proofs.built_in.built_in_named.Goals as goal

pub returns-in-Some : goal.returns-in-Some
returns-in-Some c = λ hooks.
    native_is_kept c.args.sig.now hooks c.args.op.0 c.args.name.now c.in-Some.native c.in_ok-truths-2.truths (sym c.eq.ensures ∙ c.if-eq.false) (sym c.eq-2.ensures ∙ c.if-eq-2.false) (sym c.eq-3.ensures ∙ c.if-eq-3.false) c.in-Some.ensures
    (ap (true_in c.args.sig.now) (sym c.kind_of_result.ensures.kind) ∙ c.in_ok-truths-2.ensures.yes) (ap (false_in c.args.sig.now) (sym c.kind_of_result.ensures.kind) ∙ c.in_ok-truths-2.ensures.no)
    ∙ ap (λ g. native_kept g c.in_ok-truths-2.truths (operator_named hooks c.args.name.now)) (sym c.gives.ensures)
