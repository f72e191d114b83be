use Rattle.std.proofs.Common.{◌≡◌, None, IfSome, IfNone, drop, map, refl, sym, ap, ◌∙◌, subst, arith}
use Rattle.std.specs.Option.{option_map}
use Rattle.std.proofs.lemmas.Option.{slice_get_within}
use Rattle.mau_terms.specs.Subst.{variables}
use Rattle.mau_terms.specs.View.{tree_of, variable_of}
use Rattle.mau_store.specs.Trees.{tree_at}
use Rattle.mau_evaluation.specs.Run.{gives, or_else}
use Rattle.mau_api.specs.Programs.{program_over}
use Rattle.mau_reduce.specs.Comes.{ComesTo}
use Rattle.mau_reduce.specs.ByTop.{order_for}
use Rattle.mau_reduce.specs.Trying.{solution_in, left_by, number_gives, IsFound}
use Rattle.mau_reduce.specs.Lasts.{left_variables_of, IsListed}
use Rattle.mau_reduce.proofs.AttemptsLeft.{at_some}
use Rattle.mau_reduce.proofs.CompiledAt.{compiled_there, compiled_at}
use Rattle.mau_reduce.proofs.attempts.next_equation.Goals as goal

pub returns-in_ok-binding-in-Some-clause-some : goal.returns-in_ok-binding-in-Some-clause-some
returns-in_ok-binding-in-Some-clause-some g c = λ hooks B derived.
    subst (λ o. IfSome o (λ x. ComesTo (program_over c.args.program.now hooks) (λ k. left_by (program_over c.args.program.now hooks) B k c.args.store.now (tree_at c.args.store.now c.args.term.0) (option_map (λ y. (y.number, g.L.Lister.given y.listing)) c.args.attempts.now.tried) (drop c.args.attempts.now.next (order_for c.args.program.now (tree_at c.args.store.now c.args.term.0))))
    (λ k. or_else (number_gives (program_over c.args.program.now hooks) B k (tree_at c.args.store.now c.args.term.0) x.number (solution_in c.next_found.new.store x.solution))
    (left_by (program_over c.args.program.now hooks) B k c.next_found.new.store (tree_at c.args.store.now c.args.term.0) (option_map (λ y. (y.number, g.L.Lister.given y.listing)) c.next_found.new.tried) (drop c.next_found.new.next (order_for c.args.program.now (tree_at c.args.store.now c.args.term.0))))))) c.in-Some.is (c.in_ok-found.ensures.some hooks B derived)

pub index-requires : goal.index-requires
index-requires g c =
    let p = c.args.program.now in
    let i = c.in-Some.found.number in
    let there = at_some (λ x. IsFound p c.next_found.new.store (tree_at c.args.store.now c.args.term.0) x.number x.solution) c.in_ok-found.field-0 c.in-Some.found c.in-Some.is c.in_ok-found.ensures.found in
    omega (arith, c.args.compiled.now.equations.ok.0, compiled_there p.sig p.equations c.args.compiled.now.equations.items c.requires.compiled.equations i (slice_get_within p.equations i there.equation there.at))

pub returns-in_ok-binding-in-Some-clause-variables : goal.returns-in_ok-binding-in-Some-clause-variables
returns-in_ok-binding-in-Some-clause-variables g c =
    let p = c.args.program.now in
    let i = c.in-Some.found.number in
    let there = at_some (λ x. IsFound p c.next_found.new.store (tree_at c.args.store.now c.args.term.0) x.number x.solution) c.in_ok-found.field-0 c.in-Some.found c.in-Some.is c.in_ok-found.ensures.found in
    subst (λ o. IfSome o (λ e. map variable_of c.in_ok-binding-in-Some.binding.variables.items ≡ variables (tree_of e.left))) (sym there.at)
    (ap (map variable_of) (c.in_ok-binding-in-Some.ensures.variables ∙ c.deref.ensures.value)
    ∙ (compiled_at p.sig p.equations c.args.compiled.now.equations.items c.requires.compiled.equations i there.equation c.index.result.now there.at c.index.ensures).variables)

pub returns-in_ok-binding-in-Some-clause-left : goal.returns-in_ok-binding-in-Some-clause-left
returns-in_ok-binding-in-Some-clause-left g c =
    let p = c.args.program.now in
    let i = c.in-Some.found.number in
    let there = at_some (λ x. IsFound p c.next_found.new.store (tree_at c.args.store.now c.args.term.0) x.number x.solution) c.in_ok-found.field-0 c.in-Some.found c.in-Some.is c.in_ok-found.ensures.found in
    ap (map variable_of) (c.in_ok-binding-in-Some.ensures.variables ∙ c.deref.ensures.value)
    ∙ ((compiled_at p.sig p.equations c.args.compiled.now.equations.items c.requires.compiled.equations i there.equation c.index.result.now there.at c.index.ensures).variables
    ∙ sym (ap left_variables_of there.at))

pub returns-in_ok-binding-in-Some-clause-is : goal.returns-in_ok-binding-in-Some-clause-is
returns-in_ok-binding-in-Some-clause-is g c = (refl, subst (λ o. IfSome o (λ x. IsFound c.args.program.now c.next_found.new.store (tree_at c.args.store.now c.args.term.0) x.number x.solution)) c.in-Some.is c.in_ok-found.ensures.found)

pub returns-in_ok-binding-in-Some-clause-listed : goal.returns-in_ok-binding-in-Some-clause-listed
returns-in_ok-binding-in-Some-clause-listed g c =
    at_some (λ x. IsListed c.args.program.now c.next_found.new.store c.next_found.new.table c.args.term x.number x.solution) c.in_ok-found.field-0 c.in-Some.found c.in-Some.is c.in_ok-found.ensures.listed

pub returns-in-None-clause-none : goal.returns-in-None-clause-none
returns-in-None-clause-none g c = λ hooks B derived.
    subst (λ o. IfNone o (ComesTo (program_over c.args.program.now hooks) (λ k. left_by (program_over c.args.program.now hooks) B k c.args.store.now (tree_at c.args.store.now c.args.term.0) (option_map (λ y. (y.number, g.L.Lister.given y.listing)) c.args.attempts.now.tried) (drop c.args.attempts.now.next (order_for c.args.program.now (tree_at c.args.store.now c.args.term.0))))
    (λ k. gives None))) c.in-None.is (c.in_ok-found.ensures.none hooks B derived)
