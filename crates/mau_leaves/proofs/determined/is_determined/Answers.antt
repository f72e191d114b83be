use Rattle.std.proofs.Common.{◌≡◌, All, false, ◌∙◌, subst}
use Rattle.std.proofs.lemmas.List.{take_all}
use Rattle.mau_terms.specs.Subst.{has_variable}
use Rattle.mau_terms.specs.View.{variable_of}
use Rattle.mau_leaves.specs.Matched.{matched_in}
use Rattle.mau_leaves.proofs.NotDetermined.{one_more_not, determined_not}
use Rattle.mau_leaves.proofs.determined.is_determined.Goals as goal

pub loop-fragment-preserved : goal.loop-fragment-preserved
loop-fragment-preserved c =
    one_more_not (variable_of c.args.variable) c.items-fragment-items.result.now c.loop-fragment.fragment-index c.fragment-item.result c.fragment-item.result c.loop-fragment-test.true c.fragment-item.is c.loop-fragment.invariant (c.in_ok-is_matched.ensures c.if-branch-2.false)

pub returns : goal.returns
returns c = λ e.
    determined_not c.args.rule.now (variable_of c.args.variable)
    (c.in_ok-is_in.ensures c.if-branch.false)
    (subst (All (λ f. has_variable (matched_in f) (variable_of c.args.variable) ≡ false))
    (take_all c.loop-fragment.fragment-index c.items-fragment-items.result.now c.loop-fragment-test.false ∙ c.items-fragment-items.ensures)
    c.loop-fragment.invariant)
