use Rattle.std.proofs.Common.{◌++◌, map, ap, ap₂, ◌∙◌}
use Rattle.mau_terms.specs.Subst.{add_variables}
use Rattle.mau_terms.specs.View.{tree_of, variable_of}
use Rattle.mau_syntactic.specs.Steps.{AreStepsOf, steps_of}
use Rattle.mau_syntactic.proofs.Stepped.{pattern_steps, steps_of_pattern}
use Rattle.mau_syntactic.proofs.pattern.Pattern.new.Goals as goal

are_steps : (c : goal.In_ok-add_term) → AreStepsOf (tree_of c.args.term.now) c.add_term.new.variables.items c.add_term.new.steps.items
are_steps c =
    let t = tree_of c.args.term.now in
    record {
      in_order = c.in_ok-add_term.ensures.variables ∙ ap (λ xs. add_variables (map variable_of xs) t) c.new-variables.ensures.items;
      steps = c.in_ok-add_term.ensures.steps ∙ ap₂ (λ w xs. w ++ steps_of (map variable_of xs) t) c.new-steps.ensures.items c.new-variables.ensures.items;
    }

pub invariant_of-result : goal.invariant_of-result
invariant_of-result c = steps_of_pattern (tree_of c.args.term.now) c.add_term.new.variables.items c.add_term.new.steps.items (are_steps c)

pub returns-clause-tree : goal.returns-clause-tree
returns-clause-tree c = pattern_steps (tree_of c.args.term.now) c.add_term.new.variables.items c.add_term.new.steps.items (are_steps c)
