use Rattle.std.proofs.Common.{sym, ap, ◌∙◌, map}
use Rattle.std.proofs.lemmas.List.{take_all}
use Rattle.mau_terms.specs.Subst.{has_variable}
use Rattle.mau_terms.specs.View.{variable_of}
use Rattle.mau_listing.specs.Places.{variables_in}
use Rattle.mau_leaves.proofs.NotDetermined.{one_more_own}
use Rattle.mau_leaves.proofs.determined.is_in.Goals as goal

pub loop-own-preserved : goal.loop-own-preserved
loop-own-preserved c =
    one_more_own (variable_of c.args.variable) c.deref-own-items.result.now c.loop-own.own-index (record { index = 0; sort = 0 }) c.loop-own-test.true c.loop-own.invariant (sym c.eq.ensures ∙ c.if-eq.false)

pub returns : goal.returns
returns c = λ e.
    ap (λ xs. has_variable xs (variable_of c.args.variable))
    (sym c.in_ok-places.ensures.variables
    ∙ ap (map variable_of) (sym (take_all c.loop-own.own-index c.deref-own-items.result.now c.loop-own-test.false ∙ (c.deref-own-items.ensures.value ∙ (c.in_ok-variables.ensures ∙ ap variables_in c.deref.ensures.value)))))
    ∙ c.loop-own.invariant
