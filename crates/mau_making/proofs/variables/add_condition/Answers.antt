use Rattle.std.proofs.Common.{take, add-one, sym, ap, ◌∙◌}
use Rattle.mau_api.specs.Variables.{fragment_variables, condition_variables}
use Rattle.mau_making.specs.Variables.{variables_in}
use Rattle.mau_making.proofs.Adding.{more_fragments}
use Rattle.mau_making.proofs.variables.add_condition.Goals as goal

pub loop-fragment-preserved : goal.loop-fragment-preserved
loop-fragment-preserved c =
    let xs = variables_in c.args.found.now.items in
    let k = c.loop-fragment.fragment-index in
    let cond = c.args.cond.now in
    record {
      value =
          c.in_ok-add_fragment.ensures.ok
          ∙ ap (λ ys. fragment_variables ys c.fragment-item.result) c.loop-fragment.invariant.value
          ∙ ap (fragment_variables (condition_variables xs (take k cond))) c.fragment-item.is
          ∙ sym (more_fragments xs cond k c.fragment-item.result c.loop-fragment-test.true)
          ∙ ap (λ n. condition_variables xs (take n cond)) (sym (add-one k));
      sorts = c.add_fragment.ensures.sorts;
    }
