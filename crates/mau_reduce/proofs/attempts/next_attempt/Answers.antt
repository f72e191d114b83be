use Rattle.std.proofs.Common.{◌≡◌, None, IfSome, IfNone, IsSome, slice_get, map, drop, sym, ap, ◌∙◌, subst}
use Rattle.std.specs.Option.{option_map}
use Rattle.mau_terms.specs.Subst.{variables}
use Rattle.mau_terms.specs.View.{tree_of, variable_of}
use Rattle.std.proofs.lemmas.List.{length-map}
use Rattle.mau_signature.specs.Signature.{theory_at}
use Rattle.mau_store.specs.Trees.{tree_at}
use Rattle.mau_evaluation.specs.Run.{gives, try_on, or_go_on, or_else}
use Rattle.mau_evaluation.specs.Evaluation.{levels, solve}
use Rattle.mau_api.specs.Programs.{program_over, equation_of}
use Rattle.mau_reduce.specs.BuiltOperators.{answer_of, leaf_tree, before_others}
use Rattle.mau_reduce.specs.Bindings.{bound_in}
use Rattle.mau_reduce.specs.Comes.{ComesTo}
use Rattle.mau_reduce.specs.ByTop.{order_for}
use Rattle.mau_reduce.specs.Trying.{solution_in, left_by, number_gives, IsFound}
use Rattle.mau_reduce.specs.declared.given.Given.TheVariants.{Nothing}
use Rattle.mau_reduce.specs.Attempting.{untried_by, cond_at, makes_of}
use Rattle.mau_reduce.specs.Lasts.{left_variables, first_values, IsLast, IsLastListed}
use Rattle.mau_reduce.proofs.Comes.{comes_from, comes_as}
use Rattle.mau_reduce.proofs.AttemptsLeft.{given_tried, none_left, equation_tried, at_some}
use Rattle.mau_reduce.proofs.Lately.{begun_of, sorts_of_last}
use Rattle.mau_reduce.proofs.attempts.next_attempt.Goals as goal

pub returns-in-Ok-Some-clause-some : goal.returns-in-Ok-Some-clause-some
returns-in-Ok-Some-clause-some g c = λ hooks B derived.
    comes_from (λ k b. ap (λ d. untried_by (program_over c.args.program.now hooks) B k c.args.store.now (tree_at c.args.store.now c.args.term.0) d (option_map (λ z. (z.number, g.L.Lister.given z.listing)) c.args.attempts.now.tried) (drop c.args.attempts.now.next (order_for c.args.program.now (tree_at c.args.store.now c.args.term.0))) b) c.in-Nothing.is)
    (comes_as (equation_tried c.args.program.now hooks B c.args.store.now c.next_equation.new.store (tree_at c.args.store.now c.args.term.0) c.next_equation.new.attempts.last c.in-Ok-Some.number c.in-Ok-Some.binding
    (λ k. left_by (program_over c.args.program.now hooks) B k c.args.store.now (tree_at c.args.store.now c.args.term.0) (option_map (λ z. (z.number, g.L.Lister.given z.listing)) c.args.attempts.now.tried) (drop c.args.attempts.now.next (order_for c.args.program.now (tree_at c.args.store.now c.args.term.0))))
    (λ k. left_by (program_over c.args.program.now hooks) B k c.next_equation.new.store (tree_at c.args.store.now c.args.term.0) (option_map (λ z. (z.number, g.L.Lister.given z.listing)) c.next_equation.new.attempts.tried) (drop c.next_equation.new.attempts.next (order_for c.args.program.now (tree_at c.args.store.now c.args.term.0))))
    (at_some (λ x. IfSome c.next_equation.new.attempts.last (λ y. ComesTo (program_over c.args.program.now hooks) (λ k. left_by (program_over c.args.program.now hooks) B k c.args.store.now (tree_at c.args.store.now c.args.term.0) (option_map (λ z. (z.number, g.L.Lister.given z.listing)) c.args.attempts.now.tried) (drop c.args.attempts.now.next (order_for c.args.program.now (tree_at c.args.store.now c.args.term.0)))) (λ k. or_else (number_gives (program_over c.args.program.now hooks) B k (tree_at c.args.store.now c.args.term.0) y.number (solution_in c.next_equation.new.store y.solution)) (left_by (program_over c.args.program.now hooks) B k c.next_equation.new.store (tree_at c.args.store.now c.args.term.0) (option_map (λ z. (z.number, g.L.Lister.given z.listing)) c.next_equation.new.attempts.tried) (drop c.next_equation.new.attempts.next (order_for c.args.program.now (tree_at c.args.store.now c.args.term.0))))))) c.in-Ok-Some.field-0 (c.in-Ok-Some.number, c.in-Ok-Some.binding) c.in-Ok-Some.field-0-is (c.in-Ok-Some.ensures.some hooks B derived))
    (at_some (λ x. IsSome c.next_equation.new.attempts.last) c.in-Ok-Some.field-0 (c.in-Ok-Some.number, c.in-Ok-Some.binding) c.in-Ok-Some.field-0-is c.in-Ok-Some.ensures.last) (at_some (λ x. IfSome c.next_equation.new.attempts.last (λ y. x.0 ≡ y.number)) c.in-Ok-Some.field-0 (c.in-Ok-Some.number, c.in-Ok-Some.binding) c.in-Ok-Some.field-0-is c.in-Ok-Some.ensures.number) (at_some (λ x. IfSome c.next_equation.new.attempts.last (λ y. x.1.values.items ≡ y.solution.values)) c.in-Ok-Some.field-0 (c.in-Ok-Some.number, c.in-Ok-Some.binding) c.in-Ok-Some.field-0-is c.in-Ok-Some.ensures.binding)
    (at_some (λ x. IfSome c.next_equation.new.attempts.last (λ y. IsFound c.args.program.now c.next_equation.new.store (tree_at c.args.store.now c.args.term.0) y.number y.solution)) c.in-Ok-Some.field-0 (c.in-Ok-Some.number, c.in-Ok-Some.binding) c.in-Ok-Some.field-0-is c.in-Ok-Some.ensures.found)
    (at_some (λ x. IfSome (slice_get c.args.program.now.equations x.0) (λ e. map variable_of x.1.variables.items ≡ variables (tree_of e.left))) c.in-Ok-Some.field-0 (c.in-Ok-Some.number, c.in-Ok-Some.binding) c.in-Ok-Some.field-0-is c.in-Ok-Some.ensures.variables))
    (λ k b. ap (λ d. or_go_on (untried_by (program_over c.args.program.now hooks) B k c.next_equation.new.store (tree_at c.args.store.now c.args.term.0) d (option_map (λ z. (z.number, g.L.Lister.given z.listing)) c.next_equation.new.attempts.tried) (drop c.next_equation.new.attempts.next (order_for c.args.program.now (tree_at c.args.store.now c.args.term.0))))
    (try_on (λ σ. gives (option_map (makes_of (program_over c.args.program.now hooks) c.next_equation.new.store (tree_at c.args.store.now c.args.term.0) d c.next_equation.new.attempts.last) σ))
    (solve (program_over c.args.program.now hooks) (levels (program_over c.args.program.now hooks) B k) (cond_at (program_over c.args.program.now hooks) c.in-Ok-Some.number) (bound_in c.next_equation.new.store c.in-Ok-Some.binding) b))) (sym (c.next_equation.ensures.given ∙ c.in-Nothing.is))))

pub returns-in-Ok-None-clause-none : goal.returns-in-Ok-None-clause-none
returns-in-Ok-None-clause-none g c = λ hooks B derived.
    comes_from (λ k b. ap (λ d. untried_by (program_over c.args.program.now hooks) B k c.args.store.now (tree_at c.args.store.now c.args.term.0) d (option_map (λ z. (z.number, g.L.Lister.given z.listing)) c.args.attempts.now.tried) (drop c.args.attempts.now.next (order_for c.args.program.now (tree_at c.args.store.now c.args.term.0))) b) c.in-Nothing.is)
    (subst (λ o. IfNone o (ComesTo (program_over c.args.program.now hooks) (λ k. left_by (program_over c.args.program.now hooks) B k c.args.store.now (tree_at c.args.store.now c.args.term.0) (option_map (λ z. (z.number, g.L.Lister.given z.listing)) c.args.attempts.now.tried) (drop c.args.attempts.now.next (order_for c.args.program.now (tree_at c.args.store.now c.args.term.0)))) (λ k. gives None))) c.in-Ok-None.field-0-is (c.in-Ok-None.ensures.none hooks B derived))

pub returns-in-Ok-Some-clause-last : goal.returns-in-Ok-Some-clause-last
returns-in-Ok-Some-clause-last g c =
    subst (λ d. IsLast c.args.program.now c.next_equation.new.store (tree_at c.args.store.now c.args.term.0) c.in-Ok-Some.number d c.next_equation.new.attempts.last) (sym (c.next_equation.ensures.given ∙ c.in-Nothing.is))
    (at_some (λ x. IsLast c.args.program.now c.next_equation.new.store (tree_at c.args.store.now c.args.term.0) x.0 Nothing c.next_equation.new.attempts.last) c.in-Ok-Some.field-0 (c.in-Ok-Some.number, c.in-Ok-Some.binding) c.in-Ok-Some.field-0-is c.in-Ok-Some.ensures.is)

pub returns-in-Ok-Some-clause-listed : goal.returns-in-Ok-Some-clause-listed
returns-in-Ok-Some-clause-listed g c =
    subst (λ d. IsLastListed c.args.program.now c.next_equation.new.store c.next_equation.new.table c.args.term c.in-Ok-Some.number d c.next_equation.new.attempts.last) (sym (c.next_equation.ensures.given ∙ c.in-Nothing.is))
    (at_some (λ x. IsLastListed c.args.program.now c.next_equation.new.store c.next_equation.new.table c.args.term x.0 Nothing c.next_equation.new.attempts.last) c.in-Ok-Some.field-0 (c.in-Ok-Some.number, c.in-Ok-Some.binding) c.in-Ok-Some.field-0-is c.in-Ok-Some.ensures.listed)

pub returns-in-Ok-Some-clause-variables : goal.returns-in-Ok-Some-clause-variables
returns-in-Ok-Some-clause-variables g c = at_some (λ x. map variable_of x.1.variables.items ≡ left_variables c.args.program.now x.0) c.in-Ok-Some.field-0 (c.in-Ok-Some.number, c.in-Ok-Some.binding) c.in-Ok-Some.field-0-is c.in-Ok-Some.ensures.left

pub returns-in-Ok-Some-clause-begun : goal.returns-in-Ok-Some-clause-begun
returns-in-Ok-Some-clause-begun g c =
    subst (λ d. c.in-Ok-Some.binding.values.items ≡ first_values d c.next_equation.new.attempts.last) (sym (c.next_equation.ensures.given ∙ c.in-Nothing.is))
    (begun_of c.next_equation.new.attempts.last c.in-Ok-Some.binding.values.items (at_some (λ x. IsSome c.next_equation.new.attempts.last) c.in-Ok-Some.field-0 (c.in-Ok-Some.number, c.in-Ok-Some.binding) c.in-Ok-Some.field-0-is c.in-Ok-Some.ensures.last) (at_some (λ x. IfSome c.next_equation.new.attempts.last (λ y. x.1.values.items ≡ y.solution.values)) c.in-Ok-Some.field-0 (c.in-Ok-Some.number, c.in-Ok-Some.binding) c.in-Ok-Some.field-0-is c.in-Ok-Some.ensures.binding))

pub returns-in-Ok-Some-clause-sorts : goal.returns-in-Ok-Some-clause-sorts
returns-in-Ok-Some-clause-sorts g c =
    sorts_of_last c.args.program.now c.next_equation.new.store c.next_equation.new.table c.args.term c.in-Ok-Some.number c.in-Ok-Some.binding (at_some (λ x. map variable_of x.1.variables.items ≡ left_variables c.args.program.now x.0) c.in-Ok-Some.field-0 (c.in-Ok-Some.number, c.in-Ok-Some.binding) c.in-Ok-Some.field-0-is c.in-Ok-Some.ensures.left)
    c.next_equation.new.attempts.last (at_some (λ x. IsSome c.next_equation.new.attempts.last) c.in-Ok-Some.field-0 (c.in-Ok-Some.number, c.in-Ok-Some.binding) c.in-Ok-Some.field-0-is c.in-Ok-Some.ensures.last)
    (at_some (λ x. IsLastListed c.args.program.now c.next_equation.new.store c.next_equation.new.table c.args.term x.0 Nothing c.next_equation.new.attempts.last) c.in-Ok-Some.field-0 (c.in-Ok-Some.number, c.in-Ok-Some.binding) c.in-Ok-Some.field-0-is c.in-Ok-Some.ensures.listed)
    (at_some (λ x. IfSome c.next_equation.new.attempts.last (λ y. x.1.values.items ≡ y.solution.values)) c.in-Ok-Some.field-0 (c.in-Ok-Some.number, c.in-Ok-Some.binding) c.in-Ok-Some.field-0-is c.in-Ok-Some.ensures.binding)

pub returns-in-Argument-clause-some : goal.returns-in-Argument-clause-some
returns-in-Argument-clause-some g c = λ hooks B derived.
    given_tried (program_over c.args.program.now hooks) B c.args.store.now (tree_at c.args.store.now c.args.term.0) c.args.attempts.now.given
    (tree_at c.args.store.now c.in-Argument.field-0.0) (ap (answer_of c.args.store.now (theory_at c.args.program.now.sig) (tree_at c.args.store.now c.args.term.0)) c.in-Argument.is) c.args.attempts.now.last
    (option_map (λ z. (z.number, g.L.Lister.given z.listing)) c.args.attempts.now.tried) (drop c.args.attempts.now.next (order_for c.args.program.now (tree_at c.args.store.now c.args.term.0)))
    (λ k. untried_by (program_over c.args.program.now hooks) B k c.args.store.now (tree_at c.args.store.now c.args.term.0) c.args.attempts.now.given (option_map (λ z. (z.number, g.L.Lister.given z.listing)) c.args.attempts.now.tried) (drop c.args.attempts.now.next (order_for c.args.program.now (tree_at c.args.store.now c.args.term.0))))
    (bound_in c.args.store.now c.without_condition.result.1) c.without_condition.result.0 (c.without_condition.ensures.number ∙ sym (length-map c.args.program.now.equations equation_of))

pub returns-in-Argument-clause-variables : goal.returns-in-Argument-clause-variables
returns-in-Argument-clause-variables g c = ap (map variable_of) c.without_condition.ensures.variables ∙ sym (none_left c.args.program.now c.without_condition.result.0 c.without_condition.ensures.number)

pub returns-in-Whole-clause-some : goal.returns-in-Whole-clause-some
returns-in-Whole-clause-some g c = λ hooks B derived.
    given_tried (program_over c.args.program.now hooks) B c.args.store.now (tree_at c.args.store.now c.args.term.0) c.args.attempts.now.given
    (leaf_tree c.in-Whole.field-0) (ap (answer_of c.args.store.now (theory_at c.args.program.now.sig) (tree_at c.args.store.now c.args.term.0)) c.in-Whole.is) c.args.attempts.now.last
    (option_map (λ z. (z.number, g.L.Lister.given z.listing)) c.args.attempts.now.tried) (drop c.args.attempts.now.next (order_for c.args.program.now (tree_at c.args.store.now c.args.term.0)))
    (λ k. untried_by (program_over c.args.program.now hooks) B k c.args.store.now (tree_at c.args.store.now c.args.term.0) c.args.attempts.now.given (option_map (λ z. (z.number, g.L.Lister.given z.listing)) c.args.attempts.now.tried) (drop c.args.attempts.now.next (order_for c.args.program.now (tree_at c.args.store.now c.args.term.0))))
    (bound_in c.args.store.now c.without_condition-in-Whole.result.1) c.without_condition-in-Whole.result.0 (c.without_condition-in-Whole.ensures.number ∙ sym (length-map c.args.program.now.equations equation_of))

pub returns-in-Whole-clause-variables : goal.returns-in-Whole-clause-variables
returns-in-Whole-clause-variables g c = ap (map variable_of) c.without_condition-in-Whole.ensures.variables ∙ sym (none_left c.args.program.now c.without_condition-in-Whole.result.0 c.without_condition-in-Whole.ensures.number)

pub returns-in-Before-clause-some : goal.returns-in-Before-clause-some
returns-in-Before-clause-some g c = λ hooks B derived.
    given_tried (program_over c.args.program.now hooks) B c.args.store.now (tree_at c.args.store.now c.args.term.0) c.args.attempts.now.given
    (before_others (theory_at c.args.program.now.sig) (tree_at c.args.store.now c.args.term.0) (leaf_tree c.in-Before.field-0)) (ap (answer_of c.args.store.now (theory_at c.args.program.now.sig) (tree_at c.args.store.now c.args.term.0)) c.in-Before.is) c.args.attempts.now.last
    (option_map (λ z. (z.number, g.L.Lister.given z.listing)) c.args.attempts.now.tried) (drop c.args.attempts.now.next (order_for c.args.program.now (tree_at c.args.store.now c.args.term.0)))
    (λ k. untried_by (program_over c.args.program.now hooks) B k c.args.store.now (tree_at c.args.store.now c.args.term.0) c.args.attempts.now.given (option_map (λ z. (z.number, g.L.Lister.given z.listing)) c.args.attempts.now.tried) (drop c.args.attempts.now.next (order_for c.args.program.now (tree_at c.args.store.now c.args.term.0))))
    (bound_in c.args.store.now c.without_condition-in-Before.result.1) c.without_condition-in-Before.result.0 (c.without_condition-in-Before.ensures.number ∙ sym (length-map c.args.program.now.equations equation_of))

pub returns-in-Before-clause-variables : goal.returns-in-Before-clause-variables
returns-in-Before-clause-variables g c = ap (map variable_of) c.without_condition-in-Before.ensures.variables ∙ sym (none_left c.args.program.now c.without_condition-in-Before.result.0 c.without_condition-in-Before.ensures.number)
